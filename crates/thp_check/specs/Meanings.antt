-- The meaning of a replay's state: it is the state after the events replayed so far. No public clause cites this module.
use Rattle.std.specs.Prelude.{◌≡◌, ◌≤◌, ℕ, Bool, false, nat_eq, [], ◌∷◌, ◌++◌, length, map, slice_get, Option, Some, None, Result, MatchResult}
use Rattle.thp_history.specs.declared.events.Event.{Event}
use Rattle.thp_history.specs.declared.events.What.{What}
use Rattle.thp_history.specs.declared.shape.Shape.{Shape}
use Rattle.thp_history.specs.Prelude.{max_order, History, by, allocations, is_closed, flight, is_taking, Fits}
use Rattle.thp_live_pages.specs.Prelude.{IsNode, block_of}
use Rattle.thp_check.specs.Flights.{blocks_in}
use Rattle.thp_check.specs.Reasons.{Explains}
use Rattle.thp_check.specs.declared.misfit.Misfit.{Misfit}
use Rattle.thp_check.specs.declared.node_state.NodeState.{NodeState}

-- the pages, the queue, the flights and the numbers of a replay are those of the history, which is legal; a flight's blocks are
-- those of its pages in order
pub record Keeps (s : Shape) (h : History) (r : NodeState) : Type 0 where
  pub shape_is : r.shape ≡ s
  pub low : s.order ≤ max_order
  pub node : IsNode s h r.places.table r.places.queue
  pub flying : (c : ℕ) → map (block_of h) (flight h c) ≡ map (λ b. Some b) (blocks_in r.flights c)
  pub room : length r.flights.callers ≡ s.blocks
  pub next_is : r.next ≡ allocations h
  pub closed_is : r.closed ≡ is_closed h

-- the last event was a take by caller c, given the caller of the last take if that was the last event
abbrev pub is_taker : Option ℕ → ℕ → Bool
is_taker None c = false
is_taker (Some d) c = nat_eq d c

-- in addition the replay records whether the last event was a take, and by whom
pub record Means (s : Shape) (h : History) (r : NodeState) : Type 0 where
  pub kept : Keeps s h r
  pub taking : (c : ℕ) → is_taking h c ≡ is_taker r.taker c

-- the event does not fit the history, for this reason
abbrev pub IsMisfit : Shape → History → Event → Misfit → Type 0
IsMisfit s h e m = (Fits s h e → ⊥) × Explains s h e m

-- whether the event of c fits each history that the replay may mean, and if not, why; if it does, the replay continues with it
abbrev pub ReplayFollows : NodeState → NodeState → ℕ → What → Result Unit Misfit → Type 0
ReplayFollows old new c w answer =
    (s : Shape) (h : History) → Means s h old → MatchResult answer (λ fits. Fits s h (by c w) × Keeps s (h ++ by c w ∷ []) new) (IsMisfit s h (by c w))

-- the same for a whole event
abbrev pub Admits : NodeState → NodeState → Event → Result Unit Misfit → Type 0
Admits old new e answer = (s : Shape) (h : History) → Means s h old → MatchResult answer (λ fits. Fits s h e × Means s (h ++ e ∷ []) new) (IsMisfit s h e)

-- the replay means some history
pub record HasMeaning (r : NodeState) : Type 0 where
  pub shape : Shape
  pub history : History
  pub means : Means shape history r

-- at each history that the replay may mean, this page is the first in the flight of caller c, or the flight is empty
abbrev pub IsFirstOf : NodeState → ℕ → Option ℕ → Type 0
IsFirstOf r c o = (s : Shape) (h : History) → Means s h r → o ≡ slice_get (flight h c) 0
