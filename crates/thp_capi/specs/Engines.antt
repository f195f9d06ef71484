-- The view that contracts have of the engine of a node's handle.
use Rattle.std.specs.Prelude.{◌≡◌, ◌≢◌, ℕ, List, Option, None, Some, length, get_or, if◌then◌else◌, nat_eq}
use Rattle.thp_history.specs.declared.shape.Shape.{Shape}
use Rattle.thp_history.specs.Prelude.{max_callers}
use Rattle.thp_node.specs.Prelude.{BatchState, NodeState}
use Rattle.thp_capi.specs.OpenBatches.{EachOpen}

-- the node, and the open batch of each caller
pub record EngineState : Type 0 where
  pub node : NodeState
  pub batches : List (Option BatchState)

-- each caller has a place, and the remaining pages of its open batch are a prefix of its flight
pub record IsEngine (e : EngineState) : Type 0 where
  pub places : length e.batches ≡ max_callers
  pub each : EachOpen e.node.journal 0 e.batches

-- the open batch of caller c, if it has one
abbrev pub engine_open_of : EngineState → ℕ → Option BatchState
engine_open_of e c = get_or e.batches c None

-- no caller has an open batch
abbrev pub NoneOpen : EngineState → Type 0
NoneOpen e = (c : ℕ) → engine_open_of e c ≡ None

-- the open batches of all callers except c are unchanged
abbrev pub OthersOpen : ℕ → EngineState → EngineState → Type 0
OthersOpen c old new = (d : ℕ) → d ≢ c → engine_open_of new d ≡ engine_open_of old d

-- the number that means no threshold, the header's THP_UNDERUSED_OFF
abbrev pub underused_off : ℕ
underused_off = 4294967295

-- the shape with these numbers
abbrev pub shape_with : ℕ → ℕ → ℕ → Shape
shape_with blocks order underused = record { blocks = blocks; order = order; underused = if nat_eq underused underused_off then None else Some underused }
