use Rattle.std.proofs.Common.{◌≡◌, ℕ, List, OnOk, subst}
use Rattle.thp_journal_writer.proofs.LineLemmas.{version_after}
use Rattle.thp_journal_writer.proofs.writer.put_version.Goals as goal

pub returns : goal.returns
returns c =
    let P : List ℕ → Type 0 = λ t. OnOk c.put_number.result (c.put_number.new.text.items ≡ t) in
    subst P (version_after c.args.text.now.items c.put.new.text.items c.number.result c.args.version c.number.ensures c.in_ok-put.ensures.text) c.put_number.ensures.text
