use Rattle.std.proofs.Common.{◌≡◌, codes, rules, refl}
use Rattle.std.proofs.lemmas.Slice.Eq.{text_from_reads}
use Rattle.thp_journal_reader.specs.Prelude.{outcome_of}
use Rattle.thp_journal_reader.proofs.event_line.outcome_of.Goals as goal

pub returns-in-queued : goal.returns-in-queued
unfolding outcome_of
returns-in-queued c =
    let is : c.args.word.now ≡ codes "queued" = text_from_reads c.args.word.now (codes "queued") (search rules) (search rules) in
    rw is refl
