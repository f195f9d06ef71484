-- The invariants of the seats of a pass and of a hold. No public clause cites this module.
use Rattle.std.specs.Prelude.{◌≡◌, ℕ, ◌<◌, ◌≤◌, Bool, true, false, List, [], ◌∷◌}
use Rattle.atomic_table.specs.declared.shared.Seat.{Seat}
use Rattle.thp_history.specs.Prelude.{max_node_callers, max_order, History, IsLegal}
use Rattle.thp_node.specs.Prelude.{NodeState}
use Rattle.thp_cell.specs.declared.rule.SeatKnowledge.{SeatKnowledge}
use Rattle.thp_cell.specs.Calls.{at_front, locking, missing}
use Rattle.thp_cell.specs.Rule.{AllBelow, ExtendsBy, Since}
use Rattle.thp_cell.specs.Views.{PassState, HasAll}

abbrev pub Place : Type 0
Place = Seat NodeState SeatKnowledge

-- what the table knows of a seat whose holder keeps the node or not
abbrev pub pass_state : Bool → Place → PassState
pass_state keeps s = record {
  cell = s.table_id;
  callers = s.me.0.callers;
  shape = s.me.0.shape;
  first = s.me.0.first;
  end = s.me.0.end;
  keeps = keeps;
  front = s.me.0.front;
  locks = s.me.0.locks;
  misses = s.me.0.misses;
}

-- the history that a seat's holder knows: if the seat has the slot, the journal of the node in it
abbrev pub seat_front : List (ℕ × NodeState) → History → History
seat_front [] front = front
seat_front ((k, node) ∷ slots) front = node.journal

-- what the holder of a seat knows
abbrev pub known_state : Bool → Place → PassState
known_state keeps s = at_front (pass_state keeps s) (seat_front s.me.1 s.me.0.front)

-- the seat has callers, all of them the cell's, and a legal front, and does not have the slot
pub record IsFree (s : Place) : Type 0 where
  pub callers : s.me.0.first < s.me.0.end
  pub inside : s.me.0.end ≤ s.me.0.callers
  pub no_node : s.me.0.has_node ≡ false
  pub no_old_fronts : s.me.0.old_fronts ≡ []
  pub no_slot : s.me.1 ≡ []
  pub legal : IsLegal s.me.0.shape s.me.0.front

-- the seat has the slot
pub record HasSlot (s : Place) : Type 0 where
  pub node : NodeState
  pub slot : s.me.1 ≡ (0, node) ∷ []

-- the seat has the slot with the node: its journal is the front, extended by events of the seat's callers only
pub record IsLent (s : Place) : Type 0 where
  pub callers : s.me.0.first < s.me.0.end
  pub inside : s.me.0.end ≤ s.me.0.callers
  pub has_node : s.me.0.has_node ≡ true
  pub node : NodeState
  pub slot : s.me.1 ≡ (0, node) ∷ []
  pub shape : node.shape ≡ s.me.0.shape
  pub legal : IsLegal node.shape node.journal
  pub adds : ExtendsBy s.me.0.first s.me.0.end s.me.0.front node.journal

-- the seat has the slot, with the node whose journal is the front
pub record HoldsNode (s : Place) : Type 0 where
  pub callers : s.me.0.first < s.me.0.end
  pub inside : s.me.0.end ≤ s.me.0.callers
  pub has_node : s.me.0.has_node ≡ true
  pub node : NodeState
  pub slot : s.me.1 ≡ (0, node) ∷ []
  pub shape : node.shape ≡ s.me.0.shape
  pub journal : node.journal ≡ s.me.0.front
  pub legal : IsLegal node.shape node.journal

-- the seat has the slot, and no event of its node has a caller outside the cell
pub record IsLocked (s : Place) : Type 0 where
  pub lent : IsLent s
  pub known : AllBelow s.me.0.callers lent.node.journal

-- the seat of a pass that keeps the node or not
abbrev pub IsIn : Bool → Place → Type 0
IsIn true s = IsLocked s
IsIn false s = IsFree s

-- The seat has the slot with the node, taken or kept by a pass that was p. The journal is the front of the pass, extended by
-- events of other callers only; and it is the front that the table knows, extended by events of the pass's callers only.
pub record HasTaken (p : PassState) (s : Place) : Type 0 where
  pub same : pass_state p.keeps s ≡ at_front (locking p) s.me.0.front
  pub callers : p.first < p.end
  pub inside : p.end ≤ p.callers
  pub has_node : s.me.0.has_node ≡ true
  pub node : NodeState
  pub slot : s.me.1 ≡ (0, node) ∷ []
  pub shape : node.shape ≡ p.shape
  pub since : Since p.first p.end p.front node.journal
  pub adds : ExtendsBy p.first p.end s.me.0.front node.journal
  pub legal : IsLegal node.shape node.journal
  pub known : AllBelow p.callers node.journal

-- another pass has the node: one lock step missed it, and nothing else changed
pub record FoundBusy (keeps : Bool) (old new : Place) : Type 0 where
  pub same : known_state keeps new ≡ missing (known_state keeps old)
  pub free : keeps ≡ false
  pub still : IsIn keeps new
  pub shared : HasAll (known_state keeps old) → ⊥

-- the numbers of a pass; its pages have at most the greatest order
pub record IsNumbered (first end : ℕ) (p : PassState) : Type 0 where
  pub first_is : first ≡ p.first
  pub end_is : end ≡ p.end
  pub few : end ≤ max_node_callers
  pub order : p.shape.order ≤ max_order
