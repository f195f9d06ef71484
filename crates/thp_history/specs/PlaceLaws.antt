-- Laws of every legal history on the queue, the flights and the life of a page.
use Rattle.std.specs.Prelude.{◌≡◌, ℕ, ◌≤◌, Bool, true, false, not, nat_eq, List, [], ◌∷◌, ◌++◌, Some, slice_get, take, length, map, count_by}
use Rattle.std.specs.List.{filter, list_all}
use Rattle.thp_history.specs.declared.events.Event.{Event}
use Rattle.thp_history.specs.declared.events.What.{What}
use Rattle.thp_history.specs.declared.events.What.TheVariants.{Alloc, UnmapWhole, UnmapSub, Unpin, Taken, Pinned, Used, Back, Dropped}
use Rattle.thp_history.specs.declared.shape.Shape.{Shape}
use Rattle.thp_history.specs.History.{History, by, some_event}
use Rattle.thp_history.specs.Counts.{allocates, is_live, is_split, is_closed, is_queued}
use Rattle.thp_history.specs.Places.{queue, queue_after, flight, standing, stands}
use Rattle.thp_history.specs.FlightSteps.{flight_after}
use Rattle.thp_history.specs.Legal.{IsLegal}
use Rattle.thp_history.specs.PageCalls.{is_about}
use Rattle.thp_history.specs.Runs.{still_flying}

-- no page occurs twice in the queue and all flights together
abbrev pub NoPageTwice : Type 0
NoPageTwice = (s : Shape) (h : History) → IsLegal s h → (p : ℕ) → count_by (λ q. nat_eq q p) (standing s h) ≤ 1

-- each page in the queue or a flight is live and not split
abbrev pub StandingPagesAreWhole : Type 0
StandingPagesAreWhole =
    (s : Shape) (h : History) → IsLegal s h → (p : ℕ) → stands s h p ≡ true → (is_live h p ≡ true) × (is_split h p ≡ false)

-- takes of these pages by caller c, one after the other
abbrev pub takes_of : ℕ → List ℕ → History
takes_of c ps = map (λ p. by c (Taken p)) ps

-- consecutive takes by one caller take the first pages of the queue, in order
abbrev pub OldestAreTaken : Type 0
OldestAreTaken =
    (s : Shape) (h : History) (c : ℕ) (ps : List ℕ) → IsLegal s (h ++ takes_of c ps) → ps ≡ take (length ps) (queue s h)

-- the event is about page p, and not its allocation
abbrev pub acts_on : ℕ → What → Bool
acts_on p (Alloc q block) = false
acts_on p (Taken q) = nat_eq p q
acts_on p (Pinned q) = nat_eq p q
acts_on p (Used q) = nat_eq p q
acts_on p (Back q) = nat_eq p q
acts_on p (Dropped q) = nat_eq p q
acts_on p w = is_about p w

-- at each event about a page, the page was allocated before and was not freed: no freed page is ever taken, split, put back or
-- dropped
abbrev pub FreedPagesAreLeftAlone : Type 0
FreedPagesAreLeftAlone =
    (s : Shape) (h : History) → IsLegal s h → (k : ℕ) (e : Event) (p : ℕ) → slice_get h k ≡ Some e → acts_on p e.what ≡ true → is_live (take k h) p ≡ true

-- a page is allocated once only
abbrev pub PagesAreNewOnce : Type 0
PagesAreNewOnce =
    (s : Shape) (h : History) → IsLegal s h → (k : ℕ) (e : Event) (p : ℕ) → slice_get h k ≡ Some e → allocates p e.what ≡ true →
    some_event (allocates p) (take k h) ≡ false

-- the event queues a page, or allocates one
abbrev pub enters : What → Bool
enters (Alloc p block) = true
enters (UnmapWhole outcome p released) = is_queued outcome
enters (UnmapSub outcome p first count released) = is_queued outcome
enters (Unpin outcome p released) = is_queued outcome
enters (Back p) = true
enters _ = false

-- no such event follows a close
abbrev pub NothingEntersAfterClose : Type 0
NothingEntersAfterClose =
    (s : Shape) (h : History) → IsLegal s h → (k : ℕ) (e : Event) → slice_get h k ≡ Some e → is_closed (take k h) ≡ true → enters e.what ≡ false

-- all events are of callers other than c
abbrev pub is_others : ℕ → History → Bool
is_others c es = list_all (λ (e : Event). not (nat_eq e.caller c)) es

-- events of other callers change a flight only by removing freed pages, and keep the order of the rest
abbrev pub OthersOnlyFree : Type 0
OthersOnlyFree =
    (s : Shape) (h es : History) (c : ℕ) → IsLegal s h → is_others c es ≡ true → flight (h ++ es) c ≡ filter (is_live (h ++ es)) (flight h c)

-- so a prefix of the flight remains a prefix after the freed pages are removed from both
abbrev pub FrontsStayInFront : Type 0
FrontsStayInFront =
    (s : Shape) (h es : History) (c : ℕ) (ps qs : List ℕ) → IsLegal s h → is_others c es ≡ true → flight h c ≡ ps ++ qs →
    flight (h ++ es) c ≡ filter (is_live (h ++ es)) ps ++ filter (is_live (h ++ es)) qs

-- if the remaining pages of a batch were a prefix of its flight, they still are
abbrev pub BatchStaysInFront : Type 0
BatchStaysInFront =
    (s : Shape) (h es : History) (c : ℕ) (ps qs : List ℕ) → IsLegal s h → is_others c es ≡ true → flight h c ≡ still_flying h c ps ++ qs →
    flight (h ++ es) c ≡ still_flying (h ++ es) c ps ++ filter (is_live (h ++ es)) qs

-- a flight starts empty and changes event by event, in any history
pub record FlightsGoByEvents : Type 0 where
  pub starts : (c : ℕ) → flight [] c ≡ []
  pub goes_on : (h : History) (e : Event) (c : ℕ) → flight (h ++ e ∷ []) c ≡ flight_after c (flight h c) e.caller e.what

-- the queue does too
pub record QueueGoesByEvents : Type 0 where
  pub starts : (s : Shape) → queue s [] ≡ []
  pub goes_on : (s : Shape) (h : History) (e : Event) → queue s (h ++ e ∷ []) ≡ queue_after s (queue s h) e.what
