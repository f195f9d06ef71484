use Rattle.std.proofs.Common.{take}
use Rattle.thp_check.specs.Prelude.{Means}
use Rattle.thp_check.proofs.checking.check.Given as goal

-- the state means the events so far
abbrev pub invariant-loop-place : goal.invariant-loop-place
invariant-loop-place l = Means l.fn.shape (take l.place l.events) l.state
