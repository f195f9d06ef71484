use Rattle.std.proofs.Common.{◌≡◌, take}
use Rattle.thp_history.specs.Prelude.{is_taking}
use Rattle.thp_model.proofs.slow_check.places.is_taking.Given as goal

-- whether the last of the events so far is a take
abbrev pub invariant-loop-event : goal.invariant-loop-event
invariant-loop-event l = l.taking ≡ is_taking (take l.event-index l.events) l.caller
