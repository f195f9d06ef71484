use Rattle.std.proofs.Common.{take}
use Rattle.thp_history.specs.Prelude.{IsLegal}
use Rattle.thp_model.proofs.slow_check.check.Given as goal

-- the events so far are legal
abbrev pub invariant-loop-place : goal.invariant-loop-place
invariant-loop-place l = IsLegal l.shape (take l.place l.events)
