-- The script of several nodes as text, and how far it has been written (this project's profile).
use Rattle.std.specs.Prelude.{◌≡◌, ◌++◌, ◌-◌, ◌^◌, ℕ, All, List, [], ◌∷◌, Option, Some, None, codes, length, map, min, fold, sum_by}
use Rattle.thp_history.specs.declared.events.Event.{Event}
use Rattle.thp_history.specs.declared.shape.Shape.{Shape}
use Rattle.thp_history.specs.Prelude.{History}
use Rattle.thp_script.specs.declared.script.Op.{Op}
use Rattle.thp_journal_scripts.specs.declared.folding.Folding.{Folding}
use Rattle.thp_journal_scripts.specs.declared.journal_script.JournalScript.{JournalScript}
use Rattle.thp_journal_scripts.specs.declared.folding.Moved.{Moved}
use Rattle.thp_journal_scripts.specs.Folds.{nothing_moved, IsFolded, IsScript}
use Rattle.thp_journal_scripts.specs.declared.turns.UntriedPage.{UntriedPage}
use Rattle.thp_journal_scripts.specs.Moving.{both_moved, capped_count}
use Rattle.thp_journal_scripts.specs.ScriptTexts.{commands_text, options_line}
use Rattle.thp_journal_scripts.specs.Turns.{out_of_turn, turns_of}

-- ---- the text

-- a node's events, and commands that repeat them
pub record NodeScript : Type 0 where
  pub shape : Shape
  pub events : History
  pub ops : List Op

abbrev pub script_shape : NodeScript → Shape
script_shape n = n.shape

-- the number of the node after those of these shapes
abbrev pub node_after : List Shape → ℕ
node_after shapes = min (length shapes) (2 ^ 32 - 2)

-- `setup`, if this is the shape of the first node
abbrev pub setup_line : List Shape → List ℕ
setup_line (s ∷ []) = codes "setup\n"
setup_line shapes = []

-- the options for nodes of these shapes, before the commands of the last of them
abbrev pub head_text : List Shape → List ℕ
head_text shapes = options_line shapes ++ setup_line shapes

-- the options for the nodes so far, and the commands of the last one
abbrev pub node_script_text : List Shape → NodeScript → List ℕ
node_script_text before n = head_text (before ++ n.shape ∷ []) ++ commands_text (node_after before) n.ops

-- the script of nodes, after nodes of these shapes
abbrev pub nodes_text : List Shape → List NodeScript → List ℕ
nodes_text before [] = []
nodes_text before (n ∷ nodes) = node_script_text before n ++ nodes_text (before ++ n.shape ∷ []) nodes

-- ---- how far it has been written

-- a node that has ended: its script, and what that moves
pub record EndedNode : Type 0 where
  pub node : NodeScript
  pub moved : Moved

abbrev pub IsEnded : EndedNode → Type 0
IsEnded e = IsScript e.node.events e.node.ops e.moved

-- the nodes that have ended, and the one that has begun, if there is one
abbrev pub node_scripts : List EndedNode → Option NodeScript → List NodeScript
node_scripts ended None = map (λ (e : EndedNode). e.node) ended
node_scripts ended (Some n) = map (λ (e : EndedNode). e.node) ended ++ n ∷ []

-- what the scripts of the nodes move
abbrev pub moved_in : List EndedNode → Moved
moved_in ended = fold (λ (m : Moved) (e : EndedNode). both_moved m e.moved) nothing_moved ended

-- the node that has begun is followed
abbrev pub IsBegun : Option NodeScript → Option Folding → Type 0
IsBegun None None = Unit {0}
IsBegun (Some n) (Some f) = IsFolded n.events n.ops f
IsBegun _ _ = ⊥

-- the text that was taken out, and the rest of it
abbrev pub taken_of : JournalScript → List ℕ
taken_of s = s.taken

abbrev pub untaken : JournalScript → List ℕ
untaken s = s.text.items

-- what the scripts of the ended nodes move
abbrev pub moved_by : JournalScript → Moved
moved_by s = s.moved

-- the number of tries out of turn in the nodes
abbrev pub out_of_turn_in : List NodeScript → ℕ
out_of_turn_in nodes = sum_by (λ (n : NodeScript). out_of_turn n.events) nodes

abbrev pub out_of_turn_by : JournalScript → ℕ
out_of_turn_by s = s.turns.out_of_turn

-- the pages that are taken and not tried yet, if a node has begun
abbrev pub AreUntried : Option NodeScript → List UntriedPage → Type 0
AreUntried None pages = Unit {0}
AreUntried (Some n) pages = pages ≡ (turns_of n.events).untried

-- the script so far is that of these nodes
pub record IsWriting (ended : List EndedNode) (begun : Option NodeScript) (s : JournalScript) : Type 0 where
  pub each : All IsEnded ended
  pub begun_is : IsBegun begun s.node
  pub text_is : taken_of s ++ untaken s ≡ nodes_text [] (node_scripts ended begun)
  pub moved_is : moved_by s ≡ moved_in ended
  pub untried_are : AreUntried begun s.turns.untried.items
  pub out_of_turn_is : out_of_turn_by s ≡ capped_count (out_of_turn_in (node_scripts ended begun))
  pub shapes_are : s.shapes.items ≡ map script_shape (node_scripts ended begun)
  pub count : s.nodes ≡ min (length s.shapes.items) (2 ^ 32 - 1)
  pub none_left : s.ops.items ≡ []

-- the nodes that have ended, once the one that had begun has, too
abbrev pub EndsAs : List EndedNode → Option NodeScript → List EndedNode → Type 0
EndsAs ended None after = after ≡ ended
EndsAs ended (Some n) after = (ops : List Op) × ((moved : Moved) × (after ≡ ended ++ record { node = record n { ops = n.ops ++ ops }; moved = moved } ∷ []))

-- the node has ended
abbrev pub EndsNode : JournalScript → JournalScript → Type 0
EndsNode old new = (ended : List EndedNode) (begun : Option NodeScript) → IsWriting ended begun old → (after : List EndedNode) × EndsAs ended begun after × IsWriting after None new

-- and one of this shape has begun
abbrev pub BeginsNode : Shape → JournalScript → JournalScript → Type 0
BeginsNode s old new =
    (ended : List EndedNode) (begun : Option NodeScript) → IsWriting ended begun old →
    (after : List EndedNode) × EndsAs ended begun after × IsWriting after (Some (record { shape = s; events = []; ops = [] })) new

-- the node that had begun has one more event
abbrev pub GoesOnAs : Event → Option NodeScript → Option NodeScript → Type 0
GoesOnAs e None after = after ≡ None
GoesOnAs e (Some n) after = (ops : List Op) × (after ≡ Some (record n { events = n.events ++ e ∷ []; ops = n.ops ++ ops }))

abbrev pub GoesOnWith : Event → JournalScript → JournalScript → Type 0
GoesOnWith e old new = (ended : List EndedNode) (begun : Option NodeScript) → IsWriting ended begun old → (after : Option NodeScript) × GoesOnAs e begun after × IsWriting ended after new

-- only text was taken out
abbrev pub StaysWritten : JournalScript → JournalScript → Type 0
StaysWritten old new = (ended : List EndedNode) (begun : Option NodeScript) → IsWriting ended begun old → IsWriting ended begun new
