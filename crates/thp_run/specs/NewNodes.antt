-- The nodes of a run, as the settings describe them.
use Rattle.std.specs.Prelude.{◌≡◌, ℕ, List, [], Option, Some, None, length, slice_get, slice_index_or}
use Rattle.thp_history.specs.declared.shape.Shape.{Shape}
use Rattle.thp_history.specs.Prelude.{max_order, History}
use Rattle.thp_node.specs.Prelude.{NodeState}
use Rattle.thp_script.specs.declared.settings.Settings.{Settings}

-- each node has the blocks that the settings give, its own order, and its own threshold of underused pages, if it has one
abbrev pub new_shape : Settings → ℕ → Shape
new_shape s n = record { blocks = s.blocks; order = slice_index_or s.orders n max_order; underused = slice_index_or s.underused n None }

-- the journal of a node; empty if there is none
abbrev pub journal_in : Option NodeState → History
journal_in (Some node) = node.journal
journal_in None = []

abbrev pub histories_of : List NodeState → ℕ → History
histories_of nodes n = journal_in (slice_get nodes n)

-- the shape of a node
abbrev pub state_shape : Option NodeState → Shape
state_shape (Some node) = node.shape
state_shape None = record { blocks = 0; order = 0; underused = None }

abbrev pub shapes_of : List NodeState → ℕ → Shape
shapes_of nodes n = state_shape (slice_get nodes n)

-- the nodes are those that the settings describe
pub record AreNodesFor (s : Settings) (nodes : List NodeState) : Type 0 where
  pub count : length nodes ≡ s.nodes
  pub shapes : (n : ℕ) (node : NodeState) → slice_get nodes n ≡ Some node → node.shape ≡ new_shape s n
