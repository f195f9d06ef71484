-- The events of the longer calls: a take, a try, a put back, and the scan that combines them. (mm/transhuge.rst, "Partial unmap
-- and deferred_split_huge_page()": the shrinker splits; the order and the batches are this project's profile)
use Rattle.std.specs.Prelude.{ℕ, not, ◌&&◌, nat_eq, nat_lt, if◌then◌else◌, Bool, List, [], ◌∷◌, ◌++◌, map, take, Option, Some, None}
use Rattle.std.specs.List.{filter, find, after_first}
use Rattle.thp_history.specs.declared.events.Event.{Event}
use Rattle.thp_history.specs.declared.events.What.TheVariants.{Taken, Split, Pinned, Used, Back, Dropped}
use Rattle.thp_history.specs.declared.shape.Shape.{Shape}
use Rattle.thp_history.specs.Sets.{set_of}
use Rattle.thp_history.specs.Shapes.{subpages}
use Rattle.thp_history.specs.History.{History, by}
use Rattle.thp_history.specs.Counts.{pins}
use Rattle.thp_history.specs.Frames.{keeps_frame}
use Rattle.thp_history.specs.Legal.{is_dropped}
use Rattle.thp_history.specs.Places.{queue, flight, has_page}
use Rattle.thp_history.specs.Underused.{is_worth_split}

-- a take of n by caller c: the n oldest queued pages in order, or all if there are fewer
abbrev pub take_events : Shape → History → ℕ → ℕ → List Event
take_events s h c n = map (λ p. by c (Taken p)) (take n (queue s h))

-- the subpages of page p that lose their frames by its split: those that no entry maps, and, if the switch is on, the zero-filled
-- ones
abbrev pub unused : Shape → History → ℕ → List Bool
unused s h p = set_of (λ i. nat_lt i (subpages s) && not (keeps_frame s h p i))

-- a try of page p: it is found in use if it is not worth a split; otherwise it is split, or found pinned
abbrev pub try_event : Shape → History → ℕ → ℕ → Event
try_event s h c p =
    by c (if is_worth_split s h p then if nat_eq (pins h p) 0 then Split p (unused s h p) else Pinned p else Used p)

-- the pages of a batch that are still in the flight of its caller
abbrev pub still_flying : History → ℕ → List ℕ → List ℕ
still_flying h c ps = filter (λ p. has_page p (flight h c)) ps

-- the next page to try: the first of the rest of the batch that is still in flight
abbrev pub next_page : History → ℕ → List ℕ → Option ℕ
next_page h c rest = find (λ p. has_page p (flight h c)) rest

-- the pages to try after that one
abbrev pub rest_after : History → ℕ → List ℕ → List ℕ
rest_after h c rest = after_first (λ p. has_page p (flight h c)) rest

-- a try of the next page of a batch: one event, or none if no page is left
abbrev pub tries_of : Shape → History → ℕ → Option ℕ → List Event
tries_of s h c None = []
tries_of s h c (Some p) = try_event s h c p ∷ []

abbrev pub split_next_events : Shape → History → ℕ → List ℕ → List Event
split_next_events s h c rest = tries_of s h c (next_page h c rest)

-- page p goes back to the queue when it leaves its batch
abbrev pub goes_back : Shape → History → ℕ → Bool
goes_back s h p = not (is_dropped s h p)

-- page p leaves its batch: to the tail of the queue, or dropped
abbrev pub return_event : Shape → History → ℕ → ℕ → Event
return_event s h c p = by c (if is_dropped s h p then Dropped p else Back p)

-- a put back of a batch: each page of it that is still in flight, in the batch's order
abbrev pub put_back_events : Shape → History → ℕ → List ℕ → List Event
put_back_events s h c ps = map (return_event s h c) (still_flying h c ps)

-- a try of page p finds it pinned
abbrev pub is_pinned : Shape → History → ℕ → Bool
is_pinned s h p = is_worth_split s h p && nat_lt 0 (pins h p)

-- a scan of n by caller c: the take, a try of each page taken, and the return of the pinned ones
abbrev pub scan_events : Shape → History → ℕ → ℕ → List Event
scan_events s h c n =
    take_events s h c n ++ map (try_event s h c) (take n (queue s h)) ++ map (return_event s h c) (filter (is_pinned s h) (take n (queue s h)))
