-- What every call of a node guarantees, and what a refused one does.
use Rattle.std.specs.Prelude.{◌≡◌, ℕ, ◌+◌, ◌*◌, ◌<◌, ◌≤◌, length, List, [], ◌∷◌, ◌++◌, Option, None, Some, ◌⊎◌, All}
use Rattle.thp_history.specs.declared.events.Event.{Event}
use Rattle.thp_history.specs.declared.events.What.TheVariants.{Alloc}
use Rattle.thp_history.specs.declared.refusal.Refusal.{Refusal}
use Rattle.thp_history.specs.declared.refusal.Refusal.TheVariants.{OutOfMemory}
use Rattle.thp_history.specs.Prelude.{by, IsLegal}
use Rattle.thp_node.specs.NodeState.{NodeState}

-- the call recorded these events, all of caller c: the journal stays legal, the room shrinks by at most their number, and each of
-- them accesses the links at most eight times
pub record Did (old new : NodeState) (c : ℕ) (es : List Event) : Type 0 where
  pub shape : new.shape ≡ old.shape
  pub journal : new.journal ≡ old.journal ++ es
  pub own : All (λ e. e.caller ≡ c) es
  pub legal : IsLegal new.shape new.journal
  pub room : old.room ≤ new.room + length es
  pub work : new.table.accesses ≤ old.table.accesses + 8 * length es

-- the call recorded the allocation of page p, in a block of its choice
pub record DidAlloc (old new : NodeState) (c p : ℕ) : Type 0 where
  pub block : ℕ
  pub did : Did old new c (by c (Alloc p block) ∷ [])

-- the call was refused with r and changed nothing: r is the reason that holds at the journal, or else lack of memory, if the room
-- was too small for its m events
pub record Refused (old new : NodeState) (why : Option Refusal) (m : ℕ) (r : Refusal) : Type 0 where
  pub same : new ≡ old
  pub cause : (why ≡ Some r) ⊎ ((why ≡ None) × (r ≡ OutOfMemory) × (old.room < m))
