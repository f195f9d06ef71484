use Rattle.std.proofs.Common.{◌≡◌, take}
use Rattle.thp_history.specs.Prelude.{queue}
use Rattle.thp_model.proofs.slow_check.places.queue.Given as goal

-- the queue after the events so far
abbrev pub invariant-loop-event : goal.invariant-loop-event
invariant-loop-event l = l.queue.items ≡ queue l.shape (take l.event-index l.events)
