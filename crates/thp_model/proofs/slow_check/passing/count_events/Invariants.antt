use Rattle.std.proofs.Common.{◌≡◌, ◌≤◌, Bool, take}
use Rattle.thp_history.specs.Prelude.{AsksEvents, count_of}
use Rattle.thp_history.specs.declared.events.What.{What}
use Rattle.thp_model.proofs.slow_check.passing.count_events.Given as goal

-- so many of the events so far pass
abbrev pub invariant-loop-event : goal.invariant-loop-event
invariant-loop-event g l = record {
  few : l.count ≤ l.event-index;
  counted : (t : What → Bool) → AsksEvents g.F.Fn l.test t → l.count ≡ count_of t (take l.event-index l.events);
}
