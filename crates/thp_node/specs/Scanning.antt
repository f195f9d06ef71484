-- The effect of a scan after its take. No public clause cites this module.
use Rattle.std.specs.Prelude.{ℕ, Bool, not, List, ◌++◌, map, filter}
use Rattle.thp_history.specs.declared.events.Event.{Event}
use Rattle.thp_history.specs.declared.shape.Shape.{Shape}
use Rattle.thp_history.specs.Prelude.{History, try_event, return_event, is_pinned, is_worth_split}
use Rattle.thp_node.specs.declared.answers.Tried.{Tried}
use Rattle.thp_node.specs.declared.answers.Tried.TheVariants.{Used}

-- a try of each of these pages, and the return of the pinned ones
abbrev pub events_after : Shape → History → ℕ → List ℕ → List Event
events_after s h c ps = map (try_event s h c) ps ++ map (return_event s h c) (filter (is_pinned s h) ps)

-- a try of page p finds it in use
abbrev pub is_tried_used : Shape → History → ℕ → Bool
is_tried_used s h p = not (is_worth_split s h p)

-- 1 for a try that found its page in use
abbrev pub used_count : Tried → ℕ
used_count (Used p) = 1
used_count t = 0
