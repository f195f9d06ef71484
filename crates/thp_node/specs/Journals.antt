-- The numbers that the journal of a node maintains in addition to its events.
use Rattle.std.specs.Prelude.{◌≡◌, ℕ, ◌+◌, ◌^◌, ◌||◌, cond, nat_eq, length, List, slice_index_or, Option, Some, None, IfSome, ◌<◌}
use Rattle.std.specs.Int.{from_bool}
use Rattle.thp_history.specs.declared.events.Outcome.{Outcome}
use Rattle.thp_history.specs.declared.events.Outcome.TheVariants.{Freed}
use Rattle.thp_history.specs.declared.events.What.{What}
use Rattle.thp_history.specs.declared.events.What.TheVariants.{UnmapWhole, UnmapSub, Unpin, Taken, Split, Used, Back, Dropped}
use Rattle.thp_history.specs.declared.shape.Shape.{Shape}
use Rattle.thp_history.specs.Prelude.{IsNodeShape, max_node_callers, History, is_closed, allocations, is_alloc, closes, flights, flight, IsLegal, AddsUp, Adds, HasRoom}
use Rattle.thp_live_pages.specs.Prelude.{flier}
use Rattle.thp_history.specs.declared.tally.SplitContext.{SplitContext}
use Rattle.thp_node.specs.declared.journal.NodeTally.{NodeTally}

-- the node's shape, the events so far, and the number of further events that there is room for
pub record JournalState : Type 0 where
  pub shape : Shape
  pub events : History
  pub room : ℕ

-- the journal is legal, and its numbers are those that its events determine
pub record IsJournal (shape : Shape) (h : History) (t : NodeTally) : Type 0 where
  pub has_shape : IsNodeShape shape
  pub legal : IsLegal shape h
  pub next_is : t.next ≡ allocations h
  pub closed_is : t.closed ≡ is_closed h
  -- also beyond the callers, where no page is in flight
  pub flying_are : (c : ℕ) → slice_index_or t.flying c 0 ≡ length (flight h c)
  pub adds_up : AddsUp shape h t.sums

-- the caller whose flight page p leaves by an outcome: the one whose flight it is in, if it is freed
abbrev pub left_by : History → ℕ → Outcome → Option ℕ
left_by h p Freed = flier p (flights h)
left_by h p _ = None

-- the caller whose flight a page leaves by an event of caller c
abbrev pub leaves_of : History → ℕ → What → Option ℕ
leaves_of h c (UnmapWhole outcome p set) = left_by h p outcome
leaves_of h c (UnmapSub outcome p first count set) = left_by h p outcome
leaves_of h c (Unpin outcome p set) = left_by h p outcome
leaves_of h c (Split p set) = Some c
leaves_of h c (Used p) = Some c
leaves_of h c (Back p) = Some c
leaves_of h c (Dropped p) = Some c
leaves_of h c _ = None

-- the same for every event except an unmap or an unpin, which the event itself determines
abbrev pub leaves_by : ℕ → What → Option ℕ
leaves_by c (Split p set) = Some c
leaves_by c (Used p) = Some c
leaves_by c (Back p) = Some c
leaves_by c (Dropped p) = Some c
leaves_by c w = None

-- the caller whose flight a page joins by an event of caller c
abbrev pub joins_of : ℕ → What → Option ℕ
joins_of c (Taken p) = Some c
joins_of c _ = None

-- the flight that a page joins has fewer than 255 pages
abbrev pub HasFlightRoom : History → ℕ → What → Type 0
HasFlightRoom h c w = IfSome (joins_of c w) (λ d. length (flight h d) < 255)

-- 1 for that caller; 0 for another, or if there is none
abbrev pub one_for : Option ℕ → ℕ → ℕ
one_for None d = 0
one_for (Some c) d = cond (nat_eq c d) 1 0

-- a page can join the flight of caller c, or leave it, as far as the counts of pages in flight allow
abbrev pub FlightHasRoom : List ℕ → ℕ → Type 0
FlightHasRoom flying c = (c < max_node_callers) × (slice_index_or flying c 0 + 1 < 2 ^ 8)

abbrev pub CanLeave : List ℕ → ℕ → Type 0
CanLeave flying c = 0 < slice_index_or flying c 0

-- a page joined the flight of one caller, and a page left that of another, if there are such callers
abbrev pub FlightsMove : List ℕ → List ℕ → Option ℕ → Option ℕ → Type 0
FlightsMove old new joins leaves = (c : ℕ) → slice_index_or new c 0 + one_for leaves c ≡ slice_index_or old c 0 + one_for joins c

-- the numbers have room for what any event can add to them
pub record HasCountRoom (t : NodeTally) : Type 0 where
  pub next : t.next + 1 < 2 ^ 64
  pub sums : HasRoom t.sums

-- what an event of caller c adds to the numbers, by which a page leaves a flight, or is split
pub record Counts (old new : NodeTally) (c : ℕ) (w : What) (leaves : Option ℕ) (split : SplitContext) : Type 0 where
  pub next : new.next ≡ old.next + from_bool (is_alloc w)
  pub closed : new.closed ≡ (old.closed || closes w)
  pub flying : FlightsMove old.flying new.flying (joins_of c w) leaves
  pub sums : Adds old.sums new.sums w split
