use Rattle.std.proofs.Common.{◌≡◌, ◌≤◌}
use Rattle.thp_history.specs.Prelude.{count_below, is_zero_filled}
use Rattle.thp_model.proofs.slow_check.underused.zero_filled.Given as goal

-- so many of the subpages so far are zero-filled
abbrev pub invariant-loop-i : goal.invariant-loop-i
invariant-loop-i l = record { few : l.count ≤ l.i; counted : l.count ≡ count_below l.i (is_zero_filled l.events l.page) }
