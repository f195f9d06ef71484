-- The script of a journal: that of its nodes' legal events, up to the first illegal one (this project's profile).
use Rattle.std.specs.Prelude.{◌≡◌, ℕ, All, List, [], ◌∷◌, ◌++◌, Option, Some, None, length, map, take}
use Rattle.thp_history.specs.declared.shape.Shape.{Shape}
use Rattle.thp_history.specs.Prelude.{event_with, History, IsFirstMisfit}
use Rattle.thp_journal_reader.specs.declared.long_check.Illegal.{Illegal}
use Rattle.thp_journal_scripts.specs.declared.journal_script.JournalScript.{JournalScript}
use Rattle.thp_journal_reader.specs.declared.journals.ReadNode.{ReadNode}
use Rattle.thp_journal_reader.specs.declared.line.Line.{Line}
use Rattle.thp_journal_reader.specs.declared.line.Line.TheVariants.{Node, Happened}
use Rattle.thp_journal_scripts.specs.declared.folding.Moved.{Moved}
use Rattle.thp_journal_scripts.specs.declared.script_check.Scripted.{Scripted}
use Rattle.thp_journal_reader.specs.Prelude.{AreLegalBefore, ReportsFirst, JournalReadSoFar}
use Rattle.thp_journal_scripts.specs.Moving.{capped_count}
use Rattle.thp_journal_scripts.specs.NodeScripts.{moved_in, node_scripts, nodes_text, out_of_turn_in, BeginsNode, EndedNode, GoesOnWith, IsEnded, IsWriting, NodeScript}

-- the nodes up to the first illegal event, the last of them with the events before it
pub record IsLegalPart (nodes part : List ReadNode) : Type 0 where
  pub before : List ReadNode
  pub node : ReadNode
  pub after : List ReadNode
  pub nodes_are : nodes ≡ before ++ node ∷ after
  pub legal : AreLegalBefore (length before) before
  pub place : ℕ
  pub misfit : IsFirstMisfit node.shape node.events place
  pub part_is : part ≡ before ++ record node { events = take place node.events } ∷ []

-- the same, or all nodes if none has an illegal event
abbrev pub LegalPart : List ReadNode → Option Illegal → List ReadNode → Type 0
LegalPart nodes None part = part ≡ nodes
LegalPart nodes (Some illegal) part = IsLegalPart nodes part

-- a node's shape and events
abbrev pub shape_and_events : ReadNode → Shape × History
shape_and_events n = (n.shape, n.events)

-- those of a node's script
abbrev pub repeated_of : NodeScript → Shape × History
repeated_of n = (n.shape, n.events)

abbrev pub ended_nodes : List EndedNode → List NodeScript
ended_nodes ended = map (λ (e : EndedNode). e.node) ended

-- The text is the script of the nodes up to the first illegal event. It moves this much, and so many tries are out of turn.
pub record IsScriptOf (nodes : List ReadNode) (illegal : Option Illegal) (text : List ℕ) (moved : Moved) (turns : ℕ) : Type 0 where
  pub part : List ReadNode
  pub legal : LegalPart nodes illegal part
  pub scripts : List EndedNode
  pub each : All IsEnded scripts
  pub same : map shape_and_events part ≡ map repeated_of (ended_nodes scripts)
  pub text_is : text ≡ nodes_text [] (ended_nodes scripts)
  pub moved_is : moved ≡ moved_in scripts
  pub out_of_turn_is : turns ≡ capped_count (out_of_turn_in (ended_nodes scripts))

-- the first illegal event of the nodes and their script, of which this text was taken out before
pub record AreScripted (nodes : List ReadNode) (taken : List ℕ) (scripted : Scripted) : Type 0 where
  pub first : ReportsFirst nodes scripted.illegal
  pub script : IsScriptOf nodes scripted.illegal (taken ++ scripted.text.items) scripted.moved scripted.out_of_turn

-- ---- while nodes are read

-- the script so far is that of the nodes; the last of them has not ended, unless an event is illegal
pub record IsScripting (nodes : List ReadNode) (illegal : Option Illegal) (s : JournalScript) : Type 0 where
  pub part : List ReadNode
  pub legal : LegalPart nodes illegal part
  pub ended : List EndedNode
  pub begun : Option NodeScript
  pub same : map shape_and_events part ≡ map repeated_of (node_scripts ended begun)
  pub goes_on : illegal ≡ None → begun ≡ None → ended ≡ []
  pub writing : IsWriting ended begun s

-- a line without an illegal event is added
abbrev pub AddsLine : Line → JournalScript → JournalScript → Type 0
AddsLine (Node n shape) old new = BeginsNode shape old new
AddsLine (Happened event) old new = (block : ℕ) → GoesOnWith (event_with block event) old new
AddsLine _ old new = new ≡ old

-- The state of a check that also writes a script: what was read, the text that was taken out, and the rest of it.
pub record ScriptSoFar : Type 0 where
  pub read : JournalReadSoFar
  pub taken : List ℕ
  pub untaken : List ℕ
