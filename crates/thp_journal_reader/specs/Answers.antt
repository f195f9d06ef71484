-- The results of the check of a journal text.
use Rattle.std.specs.Prelude.{◌≡◌, ◌<◌, ◌+◌, ◌⊎◌, ⊤, ℕ, List, length, slice_get, take, Option, Some, None, Result, Err}
use Rattle.thp_history.specs.Prelude.{SameButBlocks, History, IsLegal, IsFirstMisfit}
use Rattle.thp_check.specs.Prelude.{Explains}
use Rattle.thp_script.specs.Prelude.{Fault}
use Rattle.thp_journal_reader.specs.declared.long_check.Illegal.{Illegal}
use Rattle.thp_script.specs.declared.fault.LongReadFault.{LongReadFault}
use Rattle.thp_script.specs.declared.fault.LongReadFault.TheVariants.{Text, OutOfMemory}
use Rattle.thp_journal_reader.specs.declared.journals.ReadJournals.{ReadJournals}
use Rattle.thp_journal_reader.specs.declared.journals.ReadNode.{ReadNode}

-- the node's events are a legal history
abbrev pub IsLegalNode : ReadNode → Type 0
IsLegalNode node = IsLegal node.shape node.events

-- the node's event on this line is its first that does not fit
pub record IsFirstIllegal (node : ReadNode) (line : ℕ) : Type 0 where
  pub place : ℕ
  pub misfit : IsFirstMisfit node.shape node.events place
  pub line_is : line ≡ node.first_line + place

-- the nodes before this index are legal
abbrev pub AreLegalBefore : ℕ → List ReadNode → Type 0
AreLegalBefore place nodes = (k : ℕ) (node : ReadNode) → k < place → slice_get nodes k ≡ Some node → IsLegalNode node

-- the event on this line is the first that does not fit: it is the first in its node, and the nodes before are legal
pub record IsFirstIllegalLine (nodes : List ReadNode) (line : ℕ) : Type 0 where
  pub place : ℕ
  pub node : ReadNode
  pub here : slice_get nodes place ≡ Some node
  pub legal_before : AreLegalBefore place nodes
  pub first : IsFirstIllegal node line

-- the event is the first that does not fit, and this is the reason
pub record IsFirstIllegalEvent (nodes : List ReadNode) (illegal : Illegal) : Type 0 where
  pub line : IsFirstIllegalLine nodes illegal.line
  pub event : slice_get line.node.events line.first.place ≡ Some illegal.event
  pub why : Explains line.node.shape (take line.first.place line.node.events) illegal.event illegal.misfit

-- for all nodes: no line if each is legal, otherwise that of the first illegal event in the order of the text
abbrev pub ReportsIllegal : List ReadNode → Option ℕ → Type 0
ReportsIllegal nodes None = AreLegalBefore (length nodes) nodes
ReportsIllegal nodes (Some line) = IsFirstIllegalLine nodes line

-- no event if each node is legal, otherwise the first illegal event in the order of the text
abbrev pub ReportsFirst : List ReadNode → Option Illegal → Type 0
ReportsFirst nodes None = AreLegalBefore (length nodes) nodes
ReportsFirst nodes (Some illegal) = IsFirstIllegalEvent nodes illegal

-- some choice of blocks makes the node's events legal
abbrev pub CanBeLegal : ReadNode → Type 0
CanBeLegal node = (h : History) × SameButBlocks node.events h × IsLegal node.shape h

-- the node's events up to its first illegal one, which is at this index
pub record IsFrontAt (node : ReadNode) (front : History) : Type 0 where
  pub place : ℕ
  pub misfit : IsFirstMisfit node.shape node.events place
  pub front_is : front ≡ take place node.events

-- the node's legal events: all of them, or those before its first illegal event
abbrev pub IsLegalFront : ReadNode → History → Type 0
IsLegalFront node front = (IsLegalNode node × (front ≡ node.events)) ⊎ IsFrontAt node front

-- the text has this error, if it is one of the text
abbrev pub ReportsLongReadFault : Result ReadJournals Fault → LongReadFault → Type 0
ReportsLongReadFault read (Text fault) = read ≡ Err (fault.line, fault.kind)
ReportsLongReadFault read OutOfMemory = ⊤
