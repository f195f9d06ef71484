-- What a holder of callers knows of the nodes, and the effect of one step of a caller on them.
use Rattle.std.specs.Prelude.{◌≡◌, ℕ, ◌<◌, ◌≤◌, List, [], ◌++◌, All, Option, None, Result, Ok, Err}
use Rattle.atomic_table.specs.Seated.{TableId}
use Rattle.thp_history.specs.declared.events.Event.{Event}
use Rattle.thp_history.specs.declared.refusal.Refusal.TheVariants.{OutOfMemory}
use Rattle.thp_history.specs.declared.shape.Shape.{Shape}
use Rattle.thp_history.specs.Prelude.{History, events_of, IsLegal}
use Rattle.thp_cell.specs.declared.fault.CellFault.{CellFault}
use Rattle.thp_cell.specs.declared.fault.CellFault.TheVariants.{Busy, Refused}
use Rattle.thp_worker.specs.declared.steps.Step.{Step}
use Rattle.thp_worker.specs.declared.reply.Reply.{Reply}
use Rattle.thp_worker.specs.Does.{Open, Does, Reaction, step_events, step_refusal}

-- the cells of the nodes, the number of nodes, the shape of each and its history so far, the number of callers, the holder's own
-- callers, which are those from `first` on and below `end`, and the open batch of each caller on each node
pub record Fronts : Type 0 where
  pub cells : List TableId
  pub nodes : ℕ
  pub shape : ℕ → Shape
  pub front : ℕ → History
  pub callers : ℕ
  pub first : ℕ
  pub end : ℕ
  pub batches : ℕ → ℕ → Option Open

-- caller c is one of the holder's
pub record HoldsCaller (f : Fronts) (c : ℕ) : Type 0 where
  pub low : f.first ≤ c
  pub high : c < f.end

-- the holder has all callers
pub record HoldsAllCallers (f : Fronts) : Type 0 where
  pub low : f.first ≡ 0
  pub high : f.end ≡ f.callers

-- the event is of a caller that is not the holder's
abbrev pub IsOfOthers : Fronts → Event → Type 0
IsOfOthers f e = f.first ≤ e.caller → f.end ≤ e.caller

-- nodes, shapes and callers don't change
pub record SameHolding (old new : Fronts) : Type 0 where
  pub cells : new.cells ≡ old.cells
  pub nodes : new.nodes ≡ old.nodes
  pub shape : new.shape ≡ old.shape
  pub callers : new.callers ≡ old.callers
  pub first : new.first ≡ old.first
  pub end : new.end ≡ old.end

-- The history of node n is extended by events of others and then by these events of caller c, and stays legal; c's open batch
-- there is `after`. The other nodes and the other open batches don't change.
pub record Moves (c n : ℕ) (old new : Fronts) (others own : List Event) (after : Option Open) : Type 0 where
  pub same : SameHolding old new
  pub by_others : All (IsOfOthers old) others
  pub by_caller : All (λ (e : Event). e.caller ≡ c) own
  pub front : new.front n ≡ old.front n ++ others ++ own
  pub elsewhere : (m : ℕ) → (m ≡ n → ⊥) → new.front m ≡ old.front m
  pub legal : IsLegal (old.shape n) (old.front n) → IsLegal (old.shape n) (new.front n)
  pub batch : new.batches c n ≡ after
  pub other_batches : (d m : ℕ) → ((d ≡ c) × (m ≡ n) → ⊥) → new.batches d m ≡ old.batches d m

-- a step of caller c on node n that has a result
pub record Answered (c n : ℕ) (step : Step) (old new : Fronts) (answer : Reaction) : Type 0 where
  pub others : List Event
  pub own : List Event
  pub after : Option Open
  pub moves : Moves c n old new others own after
  pub does : Does (old.shape n) (old.front n ++ others) c (old.batches c n) step own answer after

-- a step for whose events memory could not be allocated; it would record at least one, and nothing else refuses it
pub record OutOf (c n : ℕ) (step : Step) (old new : Fronts) : Type 0 where
  pub others : List Event
  pub moves : Moves c n old new others [] (old.batches c n)
  pub allowed : step_refusal (old.shape n) (old.front n ++ others) c step ≡ None
  pub needs : 0 < step_events (old.shape n) (old.front n ++ others) c (old.batches c n) step

-- another holder has the node: nothing changes, and the holder does not have all callers
pub record IsStepBusy (old new : Fronts) : Type 0 where
  pub same : new ≡ old
  pub shared : HoldsAllCallers old → ⊥

-- a step of caller c on node n
abbrev pub StepDone : ℕ → ℕ → Step → Fronts → Fronts → Result Reply CellFault → Type 0
StepDone c n step old new (Ok reply) = Answered c n step old new (Ok reply)
StepDone c n step old new (Err Busy) = IsStepBusy old new
StepDone c n step old new (Err (Refused OutOfMemory)) = OutOf c n step old new
StepDone c n step old new (Err (Refused why)) = Answered c n step old new (Err why)

-- The state after some steps of caller c: each node's history is extended, and the holder's other callers did nothing
pub record Goes (c : ℕ) (old new : Fronts) : Type 0 where
  pub same : SameHolding old new
  pub grown : (n : ℕ) → (more : History) × (new.front n ≡ old.front n ++ more)
  pub others : (d n : ℕ) → HoldsCaller old d → (d ≡ c → ⊥) → events_of d (new.front n) ≡ events_of d (old.front n)
  pub others_batches : (d n : ℕ) → (d ≡ c → ⊥) → new.batches d n ≡ old.batches d n
  pub legal : (n : ℕ) → IsLegal (old.shape n) (old.front n) → IsLegal (old.shape n) (new.front n)

-- the nodes are the same
pub record SameNodes (f g : Fronts) : Type 0 where
  pub cells : g.cells ≡ f.cells
  pub nodes : g.nodes ≡ f.nodes
  pub shape : g.shape ≡ f.shape
  pub callers : g.callers ≡ f.callers

-- the nodes are the same, and each history is extended
pub record Grows (old new : Fronts) : Type 0 where
  pub same : SameNodes old new
  pub grown : (n : ℕ) → (more : History) × (new.front n ≡ old.front n ++ more)
