use Rattle.std.proofs.Common.{◌≡◌, drop}
use Rattle.thp_history.specs.Prelude.{first_of}
use Rattle.thp_model.proofs.slow_check.kinds.first_of.Given as goal

-- no reason so far holds
abbrev pub invariant-loop-reason : goal.invariant-loop-reason
invariant-loop-reason l = first_of l.reasons ≡ first_of (drop l.reason-index l.reasons)
