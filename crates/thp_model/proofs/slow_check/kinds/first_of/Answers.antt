use Rattle.std.proofs.Common.{sym, ◌∙◌}
use Rattle.thp_history.proofs.Asked.{first_yes, first_no}
use Rattle.thp_model.proofs.slow_check.kinds.first_of.Goals as goal

pub loop-reason-preserved : goal.loop-reason-preserved
loop-reason-preserved c = c.loop-reason.invariant ∙ first_no c.args.reasons.now c.loop-reason.reason-index _ c.loop-reason-test.true c.if-reason.false

pub returns-then-reason : goal.returns-then-reason
returns-then-reason c =
    sym (c.loop-reason.invariant ∙ first_yes c.args.reasons.now c.loop-reason.reason-index _ c.loop-reason-test.true c.if-reason.true)
