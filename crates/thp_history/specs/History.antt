-- Histories of a node.
use Rattle.std.specs.Prelude.{ℕ, Bool, nat_eq, List}
use Rattle.std.specs.List.{filter, count_by, list_any}
use Rattle.thp_history.specs.declared.events.Event.{Event}
use Rattle.thp_history.specs.declared.events.What.{What}

-- the events of one node, oldest first
abbrev pub History : Type 0
History = List Event

-- the event that caller c did w
abbrev pub by : ℕ → What → Event
by c w = record { caller = c; what = w }

-- the events of caller c, in order
unfoldable pub events_of : ℕ → History → History
events_of c h = filter (λ (e : Event). nat_eq e.caller c) h

-- the number of events that pass a test
unfoldable pub count_of : (What → Bool) → History → ℕ
count_of test h = count_by (λ (e : Event). test e.what) h

-- some event passes a test
unfoldable pub some_event : (What → Bool) → History → Bool
some_event test h = list_any (λ (e : Event). test e.what) h
