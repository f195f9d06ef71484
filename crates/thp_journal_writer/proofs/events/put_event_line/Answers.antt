use Rattle.std.proofs.Common.{◌≡◌, ℕ, List, OnOk, subst}
use Rattle.thp_journal_writer.proofs.LineLemmas.{event_after}
use Rattle.thp_journal_writer.proofs.events.put_event_line.Goals as goal

pub returns : goal.returns
returns c =
    let P : List ℕ → Type 0 = λ t. OnOk c.put_what.result (c.put_what.new.text.items ≡ t) in
    subst P (event_after c.args.text.now.items c.put_number.new.text.items c.from.result c.args.event.now (cc) c.in_ok-put_number.ensures.text) c.put_what.ensures
