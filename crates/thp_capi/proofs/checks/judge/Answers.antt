-- The check's verdict is that on the text that came.
use Rattle.std.proofs.Common.{subst, sym}
use Rattle.thp_capi.specs.LongChecks.{Judges}
use Rattle.thp_capi.proofs.TextSoFar.{judged}
use Rattle.thp_capi.proofs.checks.judge.Goals as goal

pub returns-in-Reading : goal.returns-in-Reading
returns-in-Reading c = subst (λ s. Judges s c.finish.result) (sym c.in-Reading.is) (judged c.in-Reading.check c.finish.result c.finish.ensures.first c.finish.ensures.fault)
