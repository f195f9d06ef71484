-- Which frames a page holds, which an event gives back, and the outcome of an unmap or an unpin.
-- (mm/transhuge.rst, "Partial unmap and deferred_split_huge_page()"; the record of frames is this project's profile)
use Rattle.std.specs.Prelude.{ℕ, Bool, false, not, ◌&&◌, ◌||◌, nat_eq, nat_lt, if◌then◌else◌, List, IsTrue, Option, Some, None, filter_map, sum_by}
use Rattle.thp_history.specs.declared.events.Event.{Event}
use Rattle.thp_history.specs.declared.events.Outcome.{Outcome}
use Rattle.thp_history.specs.declared.events.Outcome.TheVariants.{Freed, Queued, Stays}
use Rattle.thp_history.specs.declared.events.What.{What}
use Rattle.thp_history.specs.declared.events.What.TheVariants.{Alloc, UnmapWhole, UnmapSub, Unpin, Split}
use Rattle.thp_history.specs.declared.shape.Shape.{Shape}
use Rattle.thp_history.specs.Sets.{set_of, set_size, sum_below, count_below}
use Rattle.thp_history.specs.Shapes.{subpages}
use Rattle.thp_history.specs.History.{History, some_event}
use Rattle.thp_history.specs.Counts.{pins, is_live, is_split, is_closed, is_used, is_mapped, loses_use, allocations}
use Rattle.thp_history.specs.Underused.{shrinks_underused, is_zero_filled}
use Rattle.thp_history.specs.Places.{stands}

-- a split of page p leaves subpage i its frame: the subpage is in use, and, if the switch is on, not zero-filled (a zero-filled
-- one is then mapped to the shared zero page)
abbrev pub keeps_frame : Shape → History → ℕ → ℕ → Bool
keeps_frame s h p i = is_used h p i && not (shrinks_underused s && is_zero_filled h p i)

-- page p holds the frame of its subpage i: every frame until the page is split, and afterwards those that the split left, each
-- while its subpage is in use
abbrev pub is_held : Shape → History → ℕ → ℕ → Bool
is_held s h p i = nat_lt i (subpages s) && (is_live h p && (not (is_split h p) || keeps_frame s h p i))

abbrev pub IsHeld : Shape → History → ℕ → ℕ → Type 0
IsHeld s h p i = IsTrue (is_held s h p i)

-- the frames of page p that are held before and not held after
abbrev pub released : Shape → History → History → ℕ → List Bool
released s before after p = set_of (λ i. is_held s before p i && not (is_held s after p i))

-- the outcome for page p of an unmap or an unpin: freed if no mapping and no pin is left; queued if a subpage of a page that is
-- not split went out of use, another one is in use, the node is open and the page is on no list yet
abbrev pub outcome : Shape → History → History → ℕ → Outcome
outcome s before after p =
    if not (is_mapped s after p) && nat_eq (pins after p) 0
    then Freed
    else
    if not (is_split before p)
    && (loses_use s before after p
    && (is_mapped s after p && (not (is_closed before) && not (stands s before p))))
    then Queued
    else Stays

-- page p was allocated in block b
abbrev pub places : ℕ → ℕ → What → Bool
places p b (Alloc q c) = nat_eq p q && nat_eq b c
places p b _ = false

-- the event allocates a page in block b that is live
abbrev pub places_live : History → ℕ → What → Bool
places_live h b (Alloc p c) = nat_eq b c && is_live h p
places_live h b _ = false

-- block b holds a live page
abbrev pub block_in_use : History → ℕ → Bool
block_in_use h b = some_event (places_live h b) h

-- the page of an event, and the frames of it that the event gave back
abbrev pub gives_back : Event → Option (ℕ × List Bool)
gives_back e = by_kind e.what where
  by_kind : What → Option (ℕ × List Bool)
  by_kind (UnmapWhole outcome p set) = Some (p, set)
  by_kind (UnmapSub outcome p first count set) = Some (p, set)
  by_kind (Unpin outcome p set) = Some (p, set)
  by_kind (Split p set) = Some (p, set)
  by_kind _ = None

-- the record of frames given back: a page and a set for each event that gives frames back, in order
unfoldable pub given : History → List (ℕ × List Bool)
given h = filter_map gives_back h

-- the number of frames given back
abbrev pub frames_given : History → ℕ
frames_given h = sum_by (λ (g : ℕ × List Bool). set_size g.1) (given h)

-- the number of frames held: pairs of a page and a subpage
abbrev pub frames_held : Shape → History → ℕ
frames_held s h = sum_below (allocations h) (λ p. count_below (subpages s) (is_held s h p))
