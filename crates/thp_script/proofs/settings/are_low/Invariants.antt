use Rattle.std.proofs.Common.{◌≡◌, ℕ, ◌<◌, get_or, true, None}
use Rattle.thp_script.specs.Prelude.{is_low}
use Rattle.thp_script.proofs.settings.are_low.Given as goal

-- the thresholds that were looked at are low
abbrev pub invariant-loop-k : goal.invariant-loop-k
invariant-loop-k l = (i : ℕ) → i < l.k → is_low (get_or l.orders i 0) (get_or l.thresholds i None) ≡ true
