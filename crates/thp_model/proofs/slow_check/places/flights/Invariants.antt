use Rattle.std.proofs.Common.{◌≡◌, take}
use Rattle.thp_history.specs.Prelude.{flights}
use Rattle.thp_model.proofs.slow_check.places.flights.Given as goal

-- the flights after the events so far
abbrev pub invariant-loop-event : goal.invariant-loop-event
invariant-loop-event l = l.flights.items ≡ flights (take l.event-index l.events)
