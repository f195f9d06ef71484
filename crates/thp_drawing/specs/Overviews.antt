-- The overview of all nodes: a line of numbers for each.
use Rattle.std.specs.Prelude.{ℕ, ◌+◌, List, [], ◌∷◌, ◌++◌, length, codes, if◌then◌else◌, nat_le, Option, Some, None, decimal}
use Rattle.thp_metrics.specs.declared.stage.Stage.TheVariants.{Split}
use Rattle.thp_drawing.specs.Elements.{group_end, group_start, text_at}
use Rattle.thp_drawing.specs.Grouped.{grouped}
use Rattle.thp_drawing.specs.Quantities.{most_of, sum_up_to}
use Rattle.thp_drawing.specs.Scales.{plus, times}
use Rattle.thp_drawing.specs.declared.node.IllegalEvent.{IllegalEvent}
use Rattle.thp_drawing.specs.declared.node.DrawnNode.{DrawnNode}
use Rattle.thp_drawing.specs.declared.quantity.Quantity.TheVariants.{Queue}

-- whether an event of a node is illegal
abbrev pub illegal_mark : Option IllegalEvent → List ℕ
illegal_mark None = []
illegal_mark (Some illegal) = codes " (illegal)"

-- a right-aligned number that ends at this position
abbrev pub number_cell : ℕ → ℕ → List ℕ
number_cell x n = text_at (codes "ink e") x 0 (grouped n)

-- the line of node n
unfoldable pub overview_line : ℕ → ℕ → DrawnNode → List ℕ
overview_line y n d =
    group_start 0 y ++ text_at (codes "ink") 150 0 (decimal n ++ illegal_mark d.illegal)
    ++ number_cell 2400 (sum_up_to Split d.last.pages) ++ number_cell 3900 (most_of Queue d.columns.items)
    ++ number_cell 5400 d.last.held ++ number_cell 6900 d.last.given ++ group_end

-- the lines of nodes from node n on, from this height on
abbrev pub overview_lines : ℕ → ℕ → List DrawnNode → List ℕ
overview_lines y n [] = []
overview_lines y n (d ∷ more) = overview_line (plus y (times 165 n)) n d ++ overview_lines y (n + 1) more

unfoldable pub overview_heads : List ℕ
overview_heads =
    text_at (codes "soft") 150 895 (codes "node") ++ text_at (codes "soft e") 2400 895 (codes "live pages")
    ++ text_at (codes "soft e") 3900 895 (codes "most queued") ++ text_at (codes "soft e") 5400 895 (codes "frames held")
    ++ text_at (codes "soft e") 6900 895 (codes "given back")

-- the overview of several nodes
unfoldable pub overview : List DrawnNode → List ℕ
overview nodes = if nat_le (length nodes) 1 then [] else overview_heads ++ overview_lines 1060 0 nodes

-- the lower end of the picture's title
abbrev pub title_foot : ℕ
title_foot = 660

-- the lower end of the overview
abbrev pub overview_foot : List DrawnNode → ℕ
overview_foot nodes = if nat_le (length nodes) 1 then title_foot else plus 950 (times 165 (length nodes))
