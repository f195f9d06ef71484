-- The output for a journal of any length.
use Rattle.std.specs.Prelude.{◌≡◌, ◌≤◌, ℕ, Bool, false, is_some, length, List, Option, None, Some, IfSome, Result, Ok, if◌then◌else◌, slice_get}
use Rattle.std.specs.List.{list_any}
use Rattle.thp_journal_tools.specs.Checks.{LongEnds}
use Rattle.thp_drawing.specs.Pictures.{node_picture, picture_text}
use Rattle.thp_drawing.specs.Tables.{node_table, table_text}
use Rattle.thp_drawing.specs.declared.node.DrawnNode.{DrawnNode}
use Rattle.thp_journal_reader.specs.declared.journals.ReadJournals.{ReadJournals}
use Rattle.thp_journal_reader.specs.Prelude.{journals_within}
use Rattle.thp_cli.specs.declared.ending.Ending.{Ending}
use Rattle.thp_cli.specs.declared.fault.RunFault.{RunFault}
use Rattle.thp_cli.specs.Prelude.{ReadsOn, Device, IsUntouched, Source, WritesAnswer}
use Rattle.thp_script.specs.Prelude.{max_counted}
use Rattle.thp_journal_tools.specs.declared.draw_program.DrawOptions.{DrawOptions}
use Rattle.thp_journal_tools.specs.Nodes.{AreDrawnOf}
use Rattle.thp_journal_tools.specs.Requests.{ending_if}

-- the output for all nodes: a table if that is requested, otherwise a picture
abbrev pub drawing_text : Bool → List DrawnNode → List ℕ
drawing_text table nodes = if table then table_text nodes else picture_text nodes

-- the output for node n alone, with its number
abbrev pub node_text : Bool → ℕ → DrawnNode → List ℕ
node_text table n node = if table then node_table n node else node_picture n node

-- some node has an illegal event
abbrev pub some_illegal : List DrawnNode → Bool
some_illegal nodes = list_any (λ (node : DrawnNode). is_some node.illegal) nodes

-- the output shows all nodes, or exactly the requested one, with its number; and the program ends like this
abbrev pub Shows : Bool → Option ℕ → List DrawnNode → Ending → List ℕ → Type 0
Shows table None nodes ending text = (text ≡ drawing_text table nodes) × (ending ≡ ending_if (some_illegal nodes))
Shows table (Some n) nodes ending text =
    (node : DrawnNode) × (slice_get nodes n ≡ Some node) × (text ≡ node_text table n node) × (ending ≡ ending_if (is_some node.illegal))

-- the text is that of the nodes in the input, each drawn up to its first illegal event; and the program ends like this
pub record IsDrawingOf (options : DrawOptions) (input : List ℕ) (ending : Ending) (text : List ℕ) : Type 0 where
  pub journals : ReadJournals
  pub spelled : journals_within max_counted input ≡ Ok journals
  pub nodes : List DrawnNode
  pub drawn : AreDrawnOf journals.nodes nodes
  pub shown : Shows options.table options.node nodes ending text

-- the drawings of the nodes in these bytes
pub record AreDrawn (bytes : List ℕ) (nodes : List DrawnNode) : Type 0 where
  pub journals : ReadJournals
  pub spelled : journals_within max_counted bytes ≡ Ok journals
  pub drawn : AreDrawnOf journals.nodes nodes

-- how a drawing ends: with the text of the nodes, or with the first error of the journal
abbrev pub DrawEnds : DrawOptions → Option (List ℕ) → Option (List ℕ) → Option (List ℕ) → Bool → Bool → Result Ending (RunFault ℕ) → Type 0
DrawEnds options = LongEnds (IsDrawingOf options)

-- the drawing ended like this
pub record Draws (options : DrawOptions) (input : Source) (output : Device) (result : Result Ending (RunFault ℕ)) : Type 0 where
  pub ends : DrawEnds options input.bytes output.before output.after input.failed output.failed result
  pub reads : ReadsOn max_counted input.failed input.called input.calls
  pub writes : WritesAnswer result output.failed output.called output.calls

-- the journals in the input lack this node
pub record LacksNode (input : List ℕ) (number : ℕ) : Type 0 where
  pub journals : ReadJournals
  pub spelled : journals_within max_counted input ≡ Ok journals
  pub lacks : length journals.nodes ≤ number

-- all of the input was read, and lacks the requested node; nothing was written
pub record FindsNoNode (options : DrawOptions) (input : Source) (output : Device) (number : ℕ) : Type 0 where
  pub asked : options.node ≡ Some number
  pub lacks : IfSome input.bytes (λ bytes. LacksNode bytes number)
  pub flag : input.failed ≡ false
  pub reads : ReadsOn max_counted input.failed input.called input.calls
  pub untouched : IsUntouched output
