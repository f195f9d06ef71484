-- The lists that pages are on: the deferred split queue, and the flights of the callers that took them. (mm/transhuge.rst,
-- "Partial unmap and deferred_split_huge_page()"; the order and the flights are this project's profile)
use Rattle.std.specs.Prelude.{ℕ, if◌then◌else◌, Bool, false, true, not, ◌&&◌, nat_eq, List, [], ◌∷◌, ◌++◌, drop, map}
use Rattle.std.specs.List.{fold, filter, list_any}
use Rattle.thp_history.specs.declared.events.Event.{Event}
use Rattle.thp_history.specs.declared.events.Outcome.{Outcome}
use Rattle.thp_history.specs.declared.events.Outcome.TheVariants.{Freed, Queued, Stays}
use Rattle.thp_history.specs.declared.events.What.{What}
use Rattle.thp_history.specs.declared.events.What.TheVariants.{Alloc, UnmapWhole, UnmapSub, Unpin, Taken, Split, Used, Back, Dropped}
use Rattle.thp_history.specs.declared.shape.Shape.{Shape}
use Rattle.thp_history.specs.History.{History}
use Rattle.thp_history.specs.Underused.{shrinks_underused}

-- the list without page p
abbrev pub without : ℕ → List ℕ → List ℕ
without p ps = filter (λ q. not (nat_eq q p)) ps

abbrev pub has_page : ℕ → List ℕ → Bool
has_page p ps = list_any (λ q. nat_eq q p) ps

-- the queue after an outcome of page p: a queued page joins at the tail, a freed page leaves at once
abbrev pub queue_by : List ℕ → ℕ → Outcome → List ℕ
queue_by ps p Stays = ps
queue_by ps p Queued = ps ++ p ∷ []
queue_by ps p Freed = without p ps

-- the queue after an event: a new page joins if the switch is on, a take removes the first page, a put back appends its page
abbrev pub queue_after : Shape → List ℕ → What → List ℕ
queue_after s ps (Alloc p block) = if shrinks_underused s then ps ++ p ∷ [] else ps
queue_after s ps (UnmapWhole outcome p released) = queue_by ps p outcome
queue_after s ps (UnmapSub outcome p first count released) = queue_by ps p outcome
queue_after s ps (Unpin outcome p released) = queue_by ps p outcome
queue_after s ps (Taken p) = drop 1 ps
queue_after s ps (Back p) = ps ++ p ∷ []
queue_after s ps _ = ps

-- the deferred split queue, oldest page first
unfoldable pub queue : Shape → History → List ℕ
queue s h = fold (λ ps (e : Event). queue_after s ps e.what) [] h

-- the pairs of a caller and a page without those of caller c and page p
abbrev pub leaves : ℕ → ℕ → List (ℕ × ℕ) → List (ℕ × ℕ)
leaves c p fs = filter (λ (f : ℕ × ℕ). not (nat_eq f.0 c && nat_eq f.1 p)) fs

-- the flights after an outcome of page p: a freed page leaves at once
abbrev pub flights_by : List (ℕ × ℕ) → ℕ → Outcome → List (ℕ × ℕ)
flights_by fs p Freed = filter (λ (f : ℕ × ℕ). not (nat_eq f.1 p)) fs
flights_by fs p _ = fs

-- the flights after an event of caller c: a page that is taken joins; one that is split, found in use, put back or dropped leaves
abbrev pub flights_after : List (ℕ × ℕ) → ℕ → What → List (ℕ × ℕ)
flights_after fs c (UnmapWhole outcome p released) = flights_by fs p outcome
flights_after fs c (UnmapSub outcome p first count released) = flights_by fs p outcome
flights_after fs c (Unpin outcome p released) = flights_by fs p outcome
flights_after fs c (Taken p) = fs ++ (c, p) ∷ []
flights_after fs c (Split p released) = leaves c p fs
flights_after fs c (Used p) = leaves c p fs
flights_after fs c (Back p) = leaves c p fs
flights_after fs c (Dropped p) = leaves c p fs
flights_after fs c _ = fs

-- the pages in flight, each with its caller, in the order of the takes
unfoldable pub flights : History → List (ℕ × ℕ)
flights h = fold (λ fs (e : Event). flights_after fs e.caller e.what) [] h

-- the pages that caller c took and that are still in its batch
abbrev pub flight : History → ℕ → List ℕ
flight h c = map (λ (f : ℕ × ℕ). f.1) (filter (λ (f : ℕ × ℕ). nat_eq f.0 c) (flights h))

-- the pages of the queue and of all flights
abbrev pub standing : Shape → History → List ℕ
standing s h = queue s h ++ map (λ (f : ℕ × ℕ). f.1) (flights h)

-- page p is in the queue or in a flight
abbrev pub stands : Shape → History → ℕ → Bool
stands s h p = has_page p (standing s h)

abbrev pub no_pages : List ℕ → Bool
no_pages [] = true
no_pages (p ∷ ps) = false

-- the event of caller d is a take by caller c
abbrev pub takes_by : ℕ → ℕ → What → Bool
takes_by c d (Taken p) = nat_eq d c
takes_by c d _ = false

-- the last event is a take by caller c
unfoldable pub is_taking : History → ℕ → Bool
is_taking h c = fold (λ before (e : Event). takes_by c e.caller e.what) false h
