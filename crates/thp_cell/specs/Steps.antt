-- What each kind of atomic step adds to the seat that makes it. There are eight kinds: the creation of the table and its first
-- seat (`root`), the split of a seat, the join of two seats, the lock step that finds the bit clear or set, the store that ends a
-- hold, the load after a join, and the load of a count.
use Rattle.std.specs.Prelude.{◌≡◌, ◌≢◌, ℕ, ◌+◌, ◌/◌, ◌%◌, ◌^◌, ◌<◌, ◌≤◌, Bool, true, false, nat_le, cond, [], ◌∷◌, None, length, All}
use Rattle.atomic_table.specs.Table.{Me, Step}
use Rattle.thp_history.specs.Prelude.{History, IsLegal, queue}
use Rattle.thp_node.specs.Prelude.{NodeState}
use Rattle.thp_cell.specs.declared.rule.OldFront.{OldFront}
use Rattle.thp_cell.specs.declared.rule.SeatKnowledge.{SeatKnowledge}
use Rattle.thp_cell.specs.Rule.{Since, AllBelow}

-- what a seat knows, and the slot that it may have
abbrev pub SeatValue : Type 0
SeatValue = Me NodeState SeatKnowledge

abbrev pub CellStep : Type 0
CellStep = Step NodeState

-- the seat after it has seen the history h
abbrev pub seat_with_front : SeatKnowledge → Bool → History → SeatKnowledge
seat_with_front v has_node h = record v { has_node = has_node; front = h; old_fronts = [] }

-- the seat after a lock step that took the slot
abbrev pub seat_locking : SeatKnowledge → SeatKnowledge
seat_locking v = record v { locks = v.locks + 1 }

-- the seat after a lock step that found another seat to have it
abbrev pub seat_missing : SeatKnowledge → SeatKnowledge
seat_missing v = record v { misses = v.misses + 1 }

-- the seat has all callers
pub record SeatIsWhole (v : SeatKnowledge) : Type 0 where
  pub from : v.first ≡ 0
  pub to : v.end ≡ v.callers

-- the seat took the slot, with the node whose journal is its new front
pub record SeatTook (m m' : SeatValue) : Type 0 where
  pub node : NodeState
  pub now : m' ≡ (seat_with_front (seat_locking m.0) true node.journal, (0, node) ∷ [])
  pub shape : node.shape ≡ m.0.shape
  pub since : Since m.0.first m.0.end m.0.front node.journal
  pub legal : IsLegal m.0.shape node.journal
  pub callers : AllBelow m.0.callers node.journal

-- another seat has the node: nothing else changed
pub record WasBusy (m m' : SeatValue) : Type 0 where
  pub same : m' ≡ (seat_missing m.0, m.1)
  pub shared : SeatIsWhole m.0 → ⊥

-- the lock step, which found the bit clear or set
pub record Locked (st : CellStep) (m : SeatValue) (found : ℕ) (m' : SeatValue) : Type 0 where
  pub clear : found % 2 ≡ 0 → SeatTook m m'
  pub set : found % 2 ≢ 0 → WasBusy m m'

-- the store that ends a hold: the front is the journal of the node in the slot
abbrev pub Stored : CellStep → SeatValue → ℕ → SeatValue → Type 0
Stored st m word m' = (node : NodeState) → m.1 ≡ (0, node) ∷ [] → m' ≡ (seat_with_front m.0 false node.journal, [])

-- the load of a count
pub record Counted (st : CellStep) (m : SeatValue) (found : ℕ) (m' : SeatValue) : Type 0 where
  pub front : History
  pub now : m' ≡ (seat_with_front m.0 false front, m.1)
  pub since : Since m.0.first m.0.end m.0.front front
  pub legal : IsLegal m.0.shape front
  pub callers : AllBelow m.0.callers front
  pub count : found / 2 ≡ length (queue m.0.shape front)
  pub short : found / 2 < 2 ^ 32

-- the load after a join: the front extends both old fronts, which are discarded, and the callers are the cell's
pub record Looked (st : CellStep) (m : SeatValue) (found : ℕ) (m' : SeatValue) : Type 0 where
  pub now : m' ≡ (seat_with_front m.0 false m.0.front, m.1)
  pub both : All (λ (o : OldFront). Since o.first o.end o.front m.0.front) m.0.old_fronts
  pub inside : m.0.end ≤ m.0.callers
  pub legal : IsLegal m.0.shape m.0.front

-- the two parts of a split: the left one has the lock steps so far
abbrev pub left_of : ℕ → SeatKnowledge → SeatKnowledge
left_of at v = record v { end = at; has_node = false; old_fronts = [] }

abbrev pub right_of : ℕ → SeatKnowledge → SeatKnowledge
right_of at v = record v { first = at; has_node = false; old_fronts = []; locks = 0; misses = 0 }

-- the longer of two fronts
abbrev pub longer : History → History → History
longer xs ys = cond (nat_le (length xs) (length ys)) ys xs

abbrev pub old_front : SeatKnowledge → OldFront
old_front v = record { first = v.first; end = v.end; front = v.front }

-- a join: the callers and lock steps of both, the longer front, and both old fronts until the following load
abbrev pub joined_seats : SeatKnowledge → SeatKnowledge → SeatKnowledge
joined_seats v w = record v {
  end = w.end;
  has_node = false;
  front = longer v.front w.front;
  old_fronts = old_front v ∷ old_front w ∷ [];
  locks = v.locks + w.locks;
  misses = v.misses + w.misses;
}

-- the second seat after the join: it has no caller
abbrev pub spent : SeatKnowledge
spent = record {
  callers = 0;
  shape = record { blocks = 0; order = 0; underused = None };
  first = 0;
  end = 0;
  has_node = false;
  front = [];
  old_fronts = [];
  locks = 0;
  misses = 0;
}
