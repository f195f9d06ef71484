use Rattle.std.proofs.Common.{◌≡◌, ℕ, ◌<◌, ◌≤◌, ◌-◌, not}
use Rattle.thp_history.specs.Prelude.{has}
use Rattle.thp_history.proofs.sub_set.SubSet.first_that.Given as goal

abbrev pub invariant-loop-at : goal.invariant-loop-at
invariant-loop-at l = record { from : l.fn.from ≤ l.at; within : l.at ≤ 512; none : (i : ℕ) → l.fn.from ≤ i → i < l.at → has l.self i ≡ not l.is_in }

abbrev pub decreases-loop-at : goal.decreases-loop-at
decreases-loop-at l = 512 - l.at
