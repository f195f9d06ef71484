use Rattle.std.proofs.Common.{◌≡◌, take}
use Rattle.thp_history.specs.Prelude.{is_zero_filled}
use Rattle.thp_model.proofs.slow_check.underused.is_zero_filled.Given as goal

-- whether the subpage is zero-filled after the events so far
abbrev pub invariant-loop-event : goal.invariant-loop-event
invariant-loop-event l = l.zero ≡ is_zero_filled (take l.event-index l.events) l.page l.i
