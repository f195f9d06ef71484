use Rattle.std.proofs.Common.{◌≡◌, Bool, false, take}
use Rattle.thp_history.specs.Prelude.{AsksEvents, some_event}
use Rattle.thp_history.specs.declared.events.What.{What}
use Rattle.thp_model.proofs.slow_check.passing.any_event.Given as goal

-- none of the events so far passes
abbrev pub invariant-loop-event : goal.invariant-loop-event
invariant-loop-event g l = (t : What → Bool) → AsksEvents g.F.Fn l.test t → some_event t (take l.event-index l.events) ≡ false
