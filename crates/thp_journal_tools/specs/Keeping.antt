-- What is kept of a node, and what it is made of where an event is illegal.
use Rattle.std.specs.Prelude.{◌≡◌, Option, None, Some}
use Rattle.thp_history.specs.Prelude.{History}
use Rattle.thp_history.specs.declared.shape.Shape.{Shape}
use Rattle.thp_check.specs.Prelude.{Replayed}
use Rattle.thp_metrics.specs.Prelude.{numbers_at, series, AreStuck}
use Rattle.thp_journal_writer.specs.Prelude.{totals_of}
use Rattle.thp_journal_writer.specs.declared.totals.Totals.{Totals}
use Rattle.thp_journal_reader.specs.declared.long_check.Illegal.{Illegal}
use Rattle.thp_drawing.specs.Drawn.{AreColumnsOf}
use Rattle.thp_drawing.specs.declared.node.IllegalEvent.{IllegalEvent}
use Rattle.thp_drawing.specs.declared.node.DrawnNode.{DrawnNode}
use Rattle.thp_metrics.specs.declared.node_series.SeriesEnd.{SeriesEnd}

-- the totals
abbrev pub KeepsTotals : Shape → History → Option Illegal → Totals → Type 0
KeepsTotals shape front illegal totals = totals ≡ totals_of shape front

abbrev pub LeavesTotals : Replayed → Totals → Type 0
LeavesTotals before totals = totals ≡ totals_of before.shape before.history

-- the line and the event of the first illegal event
abbrev pub illegal_event_of : Option Illegal → Option IllegalEvent
illegal_event_of None = None
illegal_event_of (Some illegal) = Some (record { line = illegal.line; event = illegal.event })

-- what is drawn: the numbers, and the illegal event
pub record KeepsDrawing (shape : Shape) (front : History) (illegal : Option Illegal) (kept : DrawnNode) : Type 0 where
  pub shape_is : kept.shape ≡ shape
  pub columns_are : AreColumnsOf (series shape front) kept
  pub last_is : kept.last ≡ numbers_at shape front
  pub illegal_is : kept.illegal ≡ illegal_event_of illegal
  pub stuck_are : AreStuck shape front kept.stuck.items

pub record LeavesNumbers (before : Replayed) (rest : Shape × SeriesEnd) : Type 0 where
  pub shape_is : rest.0 ≡ before.shape
  pub numbers_are : rest.1.numbers ≡ numbers_at before.shape before.history
  pub columns_are : rest.1.columns ≡ series before.shape before.history
  pub waiting_is : rest.1.waiting ≡ before
