-- The outcome for a page that lost mappings or a pin, computed from the change.
use Rattle.std.specs.Prelude.{◌^◌, List, Bool, not, ◌&&◌, nat_eq, nat_lt, if◌then◌else◌}
use Rattle.thp_history.specs.declared.events.Outcome.{Outcome}
use Rattle.thp_history.specs.declared.events.Outcome.TheVariants.{Freed, Queued, Stays}
use Rattle.thp_history.specs.Prelude.{PageState, is_freed, set_of}
use Rattle.thp_page.specs.declared.page.Change.{Change}

-- the outcome of a change, computed from the page after it
abbrev pub outcome_by : PageState → Change → Bool → Bool → Outcome
outcome_by new change closed nowhere =
    if not change.used_left && nat_eq new.pins 0
    then Freed
    else
    if not new.split && (change.unused && (change.used_left && (not closed && nowhere)))
    then Queued
    else Stays

-- the frames that a change gives back, computed from the page after it
abbrev pub released_after : PageState → Change → Outcome → List Bool
released_after new change o = if is_freed o && not new.split then set_of (λ i. nat_lt i (2 ^ new.order)) else change.released
