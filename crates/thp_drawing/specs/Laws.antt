-- Laws of drawings.
use Rattle.std.specs.Prelude.{◌≡◌, ◌^◌, ◌<◌, length}
use Rattle.thp_history.specs.declared.shape.Shape.{Shape}
use Rattle.thp_history.specs.Prelude.{allocations, History, IsLegal, IsNodeShape}
use Rattle.thp_drawing.specs.Drawn.{IsDrawn}
use Rattle.thp_drawing.specs.Rows.{allocated_pages}
use Rattle.thp_drawing.specs.declared.node.DrawnNode.{DrawnNode}

-- a node whose events are legal has as many rows as pages allocated
abbrev pub EachPageHasItsRow : Type 0
EachPageHasItsRow =
    (s : Shape) (h : History) (d : DrawnNode) → IsNodeShape s → IsLegal s h → length h < 2 ^ 64 → IsDrawn s h d
    → allocated_pages d ≡ allocations h
