use Rattle.std.proofs.Common.{◌∙◌, ap}
use Rattle.thp_journal_tools.specs.declared.progress.EventCount.{EventCount}
use Rattle.thp_journal_tools.proofs.ProgressLaws.{counts_more}
use Rattle.thp_journal_tools.proofs.progress.Progress.look.Goals as goal

pub returns-clause-counted : goal.returns-clause-counted
returns-clause-counted g c = λ text was.
    counts_more c.args.self.now c.show.new.self text c.args.bytes.now was c.show.ensures.bytes
    (ap (λ (e : EventCount). e.events) c.show.ensures.counted ∙ c.with-self.ensures.events) (ap (λ (e : EventCount). e.begins) c.show.ensures.counted ∙ c.with-self.ensures.begins)
