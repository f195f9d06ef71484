-- The result of an unmap or an unpin, computed from the page's state before and after.
use Rattle.std.specs.Prelude.{Bool, not, ◌&&◌, ◌||◌, nat_eq, if◌then◌else◌, List}
use Rattle.thp_history.specs.declared.events.Outcome.{Outcome}
use Rattle.thp_history.specs.declared.events.Outcome.TheVariants.{Freed, Queued, Stays}
use Rattle.thp_history.specs.Sets.{set_of}
use Rattle.thp_history.specs.Counts.{is_freed}
use Rattle.thp_history.specs.Pages.{PageState, has_use, drops_use, holds}

-- the outcome, on an open or a closed node, for a page that is on a list or on none
abbrev pub page_outcome : PageState → PageState → Bool → Bool → Outcome
page_outcome old new closed standing =
    if not (has_use new) && nat_eq new.pins 0
    then Freed
    else
    if not old.split && (drops_use old new && (has_use new && (not closed && not standing)))
    then Queued
    else Stays

-- the frames given back: all frames held if the page is freed, otherwise those that are no longer held
abbrev pub page_released : PageState → PageState → Outcome → List Bool
page_released old new o = set_of (λ i. holds old i && (is_freed o || not (holds new i)))
