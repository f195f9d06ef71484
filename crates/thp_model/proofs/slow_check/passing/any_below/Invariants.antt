use Rattle.std.proofs.Common.{◌≡◌, ◌<◌, ℕ, Bool, false}
use Rattle.thp_history.specs.Prelude.{AsksBelow}
use Rattle.thp_model.proofs.slow_check.passing.any_below.Given as goal

-- each number so far answers false
abbrev pub invariant-loop-i : goal.invariant-loop-i
invariant-loop-i g l = (t : ℕ → Bool) → AsksBelow g.F.Fn l.test l.fn.n t → (j : ℕ) → j < l.i → t j ≡ false
