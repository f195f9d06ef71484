-- The data of a reader of journals. Public clauses cite this module through `Parts` only.
use Rattle.std.specs.Prelude.{◌≡◌, ◌≤◌, ◌+◌, ℕ, All, List, [], ◌∷◌, ◌++◌, length, Option, Some, None, IfSome}
use Rattle.thp_history.specs.declared.events.Event.{Event}
use Rattle.thp_history.specs.declared.shape.Shape.{Shape}
use Rattle.thp_history.specs.Prelude.{event_with, least_free, max_blocks, IsShapeWithin}
use Rattle.thp_script.specs.declared.fault.TextKind.{TextKind}
use Rattle.thp_script.specs.declared.fault.TextKind.TheVariants.{Cut}
use Rattle.thp_journal_reader.specs.declared.journals.ReadNode.{ReadNode}
use Rattle.thp_journal_reader.specs.declared.line.Line.{Line}
use Rattle.thp_journal_reader.specs.declared.line.Line.TheVariants.{Node, Happened}
use Rattle.thp_journal_reader.specs.declared.line.Place.{Place}
use Rattle.thp_journal_reader.specs.declared.line.Place.TheVariants.{Ended}
use Rattle.thp_journal_reader.specs.declared.journals.Nodes.{Nodes}
use Rattle.thp_journal_reader.specs.declared.journals.OpenNode.{OpenNode}

-- the blocks are those chosen for the node's shape and its events
pub record BlocksGoAlong (node : OpenNode) : Type 0 where
  pub shape_is : node.blocks.shape ≡ node.journal.shape
  pub history_is : node.blocks.history ≡ node.journal.events

-- the journal of a node before its first event
abbrev pub began : ℕ → Shape → ReadNode
began first_line shape = record { shape = shape; first_line = first_line; events = [] }

-- the journal with one more event, an allocation in the least free block
abbrev pub with_event : Event → ReadNode → ReadNode
with_event event node = record {
  shape = node.shape;
  first_line = node.first_line;
  events = node.events ++ event_with (least_free node.shape node.events) event ∷ [];
}

-- the nodes with the last of them changed, if there is one
abbrev pub on_last : (ReadNode → ReadNode) → List ReadNode → List ReadNode
on_last f [] = []
on_last f (node ∷ []) = f node ∷ []
on_last f (node ∷ next ∷ nodes) = node ∷ on_last f (next ∷ nodes)

-- the nodes after one more line, which has this number
abbrev pub with_line : ℕ → List ReadNode → Line → List ReadNode
with_line number nodes (Node n shape) = nodes ++ began (number + 1) shape ∷ []
with_line number nodes (Happened event) = on_last (with_event event) nodes
with_line number nodes _ = nodes

-- the nodes read so far
abbrev pub nodes_in : Option Nodes → List ReadNode
nodes_in None = []
nodes_in (Some nodes) = nodes.closed ++ nodes.last.journal ∷ []

-- a node of a valid shape with at most so many blocks, whose lines are before this one
pub record IsNodeBefore (most : ℕ) (number : ℕ) (node : ReadNode) : Type 0 where
  pub shape : IsShapeWithin most node.shape
  pub lines : node.first_line + length node.events ≤ number

-- the blocks agree, and the nodes are before this line
pub record IsReadingNodes (number : ℕ) (nodes : Option Nodes) : Type 0 where
  pub along : IfSome nodes (λ n. BlocksGoAlong n.last)
  pub each : All (IsNodeBefore max_blocks number) (nodes_in nodes)

-- the text after the last line has an error; if there is none, the journal is cut unless it has ended
abbrev pub fault_at : Option TextKind → Place → Option TextKind
fault_at (Some kind) place = Some kind
fault_at None (Ended accepted version) = None
fault_at None _ = Some Cut
