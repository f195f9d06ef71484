-- The data of a node that is drawn.
use Rattle.std.specs.Prelude.{◌≡◌, List, None, length}
use Rattle.thp_history.specs.declared.shape.Shape.{Shape}
use Rattle.thp_history.specs.Prelude.{History}
use Rattle.thp_metrics.specs.declared.numbers.Numbers.{Numbers}
use Rattle.thp_metrics.specs.Prelude.{columns_of, IsWidth, numbers_at, series, AreStuck}
use Rattle.thp_drawing.specs.declared.node.DrawnNode.{DrawnNode}

-- the columns are those of these prefixes
pub record AreColumnsOf (ns : List Numbers) (node : DrawnNode) : Type 0 where
  pub prefixes : node.prefixes ≡ length ns
  pub width : IsWidth (length ns) node.width
  pub columns : node.columns.items ≡ columns_of node.width ns

-- it is the data of a node of this shape with these events
pub record IsDrawn (s : Shape) (h : History) (node : DrawnNode) : Type 0 where
  pub shape : node.shape ≡ s
  pub columns : AreColumnsOf (series s h) node
  pub last : node.last ≡ numbers_at s h
  pub illegal : node.illegal ≡ None
  pub stuck : AreStuck s h node.stuck.items
