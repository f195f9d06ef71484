-- The rule of a cell: what holds of its word, its slot and its seats between any two atomic steps.
use Rattle.std.specs.Prelude.{◌≡◌, ℕ, ◌+◌, ◌*◌, ◌^◌, ◌<◌, ◌≤◌, true, false, ◌&&◌, nat_lt, nat_le, cond, List, [], ◌∷◌, ◌++◌, length, All, sum_by}
use mathlib.Core.Option.{Option as Maybe, some, none}
use lib.ListN.{get_elem?}
use Rattle.atomic_table.specs.Table.{State}
use Rattle.thp_history.specs.declared.events.Event.{Event}
use Rattle.thp_history.specs.declared.shape.Shape.{Shape}
use Rattle.thp_history.specs.Prelude.{History, IsLegal, queue}
use Rattle.thp_node.specs.Prelude.{NodeState}
use Rattle.thp_cell.specs.declared.rule.OldFront.{OldFront}
use Rattle.thp_cell.specs.declared.rule.SeatKnowledge.{SeatKnowledge}

-- the event is of one of the callers from first on and below end
abbrev pub IsOwn : ℕ → ℕ → Event → Type 0
IsOwn first end e = (first ≤ e.caller) × (e.caller < end)

-- the event is of none of them
abbrev pub IsOther : ℕ → ℕ → Event → Type 0
IsOther first end e = first ≤ e.caller → end ≤ e.caller

-- every event is of one of these callers
abbrev pub OnlyOf : ℕ → ℕ → List Event → Type 0
OnlyOf first end es = All (IsOwn first end) es

-- no event is of one of these callers
abbrev pub NoneOf : ℕ → ℕ → List Event → Type 0
NoneOf first end es = All (IsOther first end) es

-- every event is of a caller below n
abbrev pub AllBelow : ℕ → List Event → Type 0
AllBelow n es = All (λ e. e.caller < n) es

-- the history is the front, extended by events of other callers only
pub record Since (first end : ℕ) (front h : History) : Type 0 where
  pub others : List Event
  pub goes_on : h ≡ front ++ others
  pub not_own : NoneOf first end others

-- the history is the front, extended by events of these callers only
pub record ExtendsBy (first end : ℕ) (front h : History) : Type 0 where
  pub own : List Event
  pub goes_on : h ≡ front ++ own
  pub by_own : OnlyOf first end own

-- 1 if the seat has the slot and the node in it, otherwise 0
abbrev pub holding : SeatKnowledge → ℕ
holding v = cond v.has_node 1 0

-- 1 if the caller is one of the seat's, otherwise 0
abbrev pub serving : ℕ → SeatKnowledge → ℕ
serving c v = cond (nat_le v.first c && nat_lt c v.end) 1 0

-- the word: twice the length of the queue, plus the lock bit
abbrev pub word_of : Shape → History → ℕ → ℕ
word_of s h bit = 2 * length (queue s h) + bit

-- an old front that a join left in a seat: the history extends it by events of callers other than its own
pub record OldFrontAgrees (h : History) (v : SeatKnowledge) (o : OldFront) : Type 0 where
  pub begins : v.first ≤ o.first
  pub ends : o.end ≤ v.end
  pub shorter : length o.front ≤ length v.front
  pub since : Since o.first o.end o.front h

-- what a seat knows is true for a cell of n callers whose node has this shape and this history
pub record SeatAgrees (n : ℕ) (s : Shape) (h : History) (v : SeatKnowledge) : Type 0 where
  pub callers : v.callers ≡ n
  pub shape : v.shape ≡ s
  pub inside : v.end ≤ n
  pub since : Since v.first v.end v.front h
  pub old_fronts : All (OldFrontAgrees h v) v.old_fronts
  pub at_node : v.has_node ≡ true → v.front ≡ h

-- a spent seat, which has no caller, only has to be without the node
pub record SeatsAgree (n : ℕ) (s : Shape) (h : History) (v : SeatKnowledge) : Type 0 where
  pub lives : v.has_node ≡ true → v.first < v.end
  pub knows : v.first < v.end → SeatAgrees n s h v

-- the slot contains a node of this shape and this journal
pub record HasNode (s : Shape) (h : History) (homes : List (Maybe NodeState)) : Type 0 where
  pub node : NodeState
  pub at_home : homes ≡ some node ∷ []
  pub shape : node.shape ≡ s
  pub journal : node.journal ≡ h

-- while no seat has the node, it is in the slot at home; while a seat has it, the slot is with that seat
pub record Home (bit : ℕ) (s : Shape) (h : History) (homes : List (Maybe NodeState)) : Type 0 where
  pub one_at_most : bit ≤ 1
  pub in_slot : bit ≡ 0 → HasNode s h homes
  pub out : bit ≡ 1 → homes ≡ none ∷ []

-- There is one legal history of the callers below n. The word is twice the length of its queue plus the lock bit, which is set
-- exactly while a seat has the node. The front of each seat is a prefix of the history, which extends it by events of other
-- callers only; so each caller's part is the same in both. Each caller belongs to one seat.
pub record RuleHolds (n : ℕ) (s : Shape) (t : State NodeState SeatKnowledge) : Type 0 where
  pub history : History
  pub legal : IsLegal s history
  pub callers : OnlyOf 0 n history
  pub short : length (queue s history) < 2 ^ 32
  pub word : t.words ≡ word_of s history (sum_by holding t.views) ∷ []
  pub home : Home (sum_by holding t.views) s history t.homes
  pub seats : (id : ℕ) (v : SeatKnowledge) → get_elem? t.views id ≡ some v → SeatsAgree n s history v
  pub one_seat : (c : ℕ) → c < n → sum_by (serving c) t.views ≡ 1

-- what the first seat knows: it has all callers, and its front is the node's journal
abbrev pub root : ℕ → NodeState → SeatKnowledge
root n node = record {
  callers = n;
  shape = node.shape;
  first = 0;
  end = n;
  has_node = false;
  front = node.journal;
  old_fronts = [];
  locks = 0;
  misses = 0;
}
