-- The laws of every legal history, for the journal of a node.
use Rattle.std.specs.Prelude.{◌≡◌, ℕ, ◌+◌, ◌*◌, ◌<◌, ◌≤◌, true, false, ◌&&◌, cond, nat_eq, nat_lt, List, [], ◌∷◌, ◌++◌, Some, slice_get, take, length, count_by, filter}
use Rattle.thp_history.specs.declared.events.Event.{Event}
use Rattle.thp_history.specs.declared.shape.Shape.{Shape}
use Rattle.thp_history.specs.Prelude.{subpages, some_below, History, count_of, some_event, allocates, allocations, is_live, is_split, is_closed, queue, queue_after, flight, standing, stands, flight_after, places, is_held, frames_held, frames_given, takes_of, acts_on, enters, is_others, gives_frame, finds_used, thp_underused_split_page, shrinks_underused, is_partly_mapped}

-- no page occurs twice in the queue and all flights together
unfoldable pub StandsOnce : Shape → History → Type 0
StandsOnce s h = (p : ℕ) → count_by (λ q. nat_eq q p) (standing s h) ≤ 1

-- each page in the queue or a flight is live and not split
unfoldable pub StandsWhole : Shape → History → Type 0
StandsWhole s h = (p : ℕ) → stands s h p ≡ true → (is_live h p ≡ true) × (is_split h p ≡ false)

-- consecutive takes by one caller took the first pages of the queue, in order
unfoldable pub TakesOldest : Shape → History → Type 0
TakesOldest s h = (before after : History) (c : ℕ) (ps : List ℕ) → h ≡ before ++ takes_of c ps ++ after → ps ≡ take (length ps) (queue s before)

-- at each event about a page except its allocation the page was live: no freed page was taken, split, put back or dropped
unfoldable pub LeavesFreedAlone : History → Type 0
LeavesFreedAlone h = (k : ℕ) (e : Event) (p : ℕ) → slice_get h k ≡ Some e → acts_on p e.what ≡ true → is_live (take k h) p ≡ true

-- no page was allocated twice
unfoldable pub AllocatesOnce : History → Type 0
AllocatesOnce h =
    (k : ℕ) (e : Event) (p : ℕ) → slice_get h k ≡ Some e → allocates p e.what ≡ true → some_event (allocates p) (take k h) ≡ false

-- after a close no page was queued or allocated
unfoldable pub NothingEnters : History → Type 0
NothingEnters h = (k : ℕ) (e : Event) → slice_get h k ≡ Some e → is_closed (take k h) ≡ true → enters e.what ≡ false

-- each frame of each allocated page is either held and was never given back, or not held and given back once
unfoldable pub HasFramesOnce : Shape → History → Type 0
HasFramesOnce s h =
    (p i : ℕ) → i < subpages s → cond (is_held s h p i) 1 0 + count_of (gives_frame p i) h ≡ cond (nat_lt p (allocations h)) 1 0

-- the frames of all allocated pages are those held and those given back
unfoldable pub KeepsFrames : Shape → History → Type 0
KeepsFrames s h = subpages s * allocations h ≡ frames_held s h + frames_given h

-- a page holds a frame exactly while it is live, except a split page while the switch is on
unfoldable pub HoldsWhileLive : Shape → History → Type 0
HoldsWhileLive s h = (p : ℕ) → (shrinks_underused s && is_split h p) ≡ false → some_below (subpages s) (is_held s h p) ≡ is_live h p

-- while the switch is off each page of the queue and of a flight is partly mapped, no page was found in use, and none was
-- split as underused
unfoldable pub NoneIsUnderused : Shape → History → Type 0
NoneIsUnderused s h =
    shrinks_underused s ≡ false →
    ((p : ℕ) → stands s h p ≡ true → is_partly_mapped s h p ≡ true)
    × ((k : ℕ) (e : Event) → slice_get h k ≡ Some e → finds_used e.what ≡ false)
    × (thp_underused_split_page s h ≡ 0)

-- two live pages have different blocks
unfoldable pub LivesApart : History → Type 0
LivesApart h =
    (p q b : ℕ) → is_live h p ≡ true → is_live h q ≡ true → some_event (places p b) h ≡ true → some_event (places q b) h ≡ true → p ≡ q

-- events of other callers removed from a caller's flight only the pages that they freed, and kept its order
unfoldable pub OthersFree : History → Type 0
OthersFree h =
    (before es after : History) (c : ℕ) → h ≡ before ++ es ++ after → is_others c es ≡ true →
    flight (before ++ es) c ≡ filter (is_live (before ++ es)) (flight before c)

-- each flight changed from event to event by what was done
unfoldable pub FlightsGoOn : History → Type 0
FlightsGoOn h =
    (before after : History) (e : Event) (c : ℕ) → h ≡ before ++ e ∷ after →
    flight (before ++ e ∷ []) c ≡ flight_after c (flight before c) e.caller e.what

-- the queue did too
unfoldable pub QueueGoesOn : Shape → History → Type 0
QueueGoesOn s h = (before after : History) (e : Event) → h ≡ before ++ e ∷ after → queue s (before ++ e ∷ []) ≡ queue_after s (queue s before) e.what
