-- The drawings of the nodes in a journal.
use Rattle.std.specs.Prelude.{◌≡◌, List, Option, None, Some, slice_get}
use Rattle.std.specs.List.{AllZip}
use Rattle.thp_drawing.specs.Drawn.{AreColumnsOf}
use Rattle.thp_drawing.specs.declared.node.IllegalEvent.{IllegalEvent}
use Rattle.thp_drawing.specs.declared.node.DrawnNode.{DrawnNode}
use Rattle.thp_journal_reader.specs.declared.journals.ReadNode.{ReadNode}
use Rattle.thp_journal_reader.specs.Prelude.{IsFirstIllegal, IsLegalNode, IsLegalFront}
use Rattle.thp_history.specs.Prelude.{History}
use Rattle.thp_metrics.specs.Prelude.{numbers_at, series, AreStuck}

-- it is the node's first illegal event, with its line
pub record IsOwnIllegal (node : ReadNode) (illegal : IllegalEvent) : Type 0 where
  pub first : IsFirstIllegal node illegal.line
  pub event_is : slice_get node.events first.place ≡ Some illegal.event

-- none if all events of the node are legal, otherwise the first illegal one
abbrev pub ReportsOwn : ReadNode → Option IllegalEvent → Type 0
ReportsOwn node None = IsLegalNode node
ReportsOwn node (Some illegal) = IsOwnIllegal node illegal

-- it is the drawing of the node: its numbers over its legal events, all or those before its first illegal event, which it
-- contains
pub record IsDrawnOf (node : ReadNode) (drawn : DrawnNode) : Type 0 where
  pub front : History
  pub legal : IsLegalFront node front
  pub shape_is : drawn.shape ≡ node.shape
  pub columns_are : AreColumnsOf (series node.shape front) drawn
  pub last_is : drawn.last ≡ numbers_at node.shape front
  pub illegal_is : ReportsOwn node drawn.illegal
  pub stuck_are : AreStuck node.shape front drawn.stuck.items

-- they are the drawings of these nodes, in order
abbrev pub AreDrawnOf : List ReadNode → List DrawnNode → Type 0
AreDrawnOf = AllZip IsDrawnOf
