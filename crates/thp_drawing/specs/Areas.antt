-- Areas over a node's columns, 6,000 wide and at most 1,000 high. The sign determines whether they extend upwards (`-`) or
-- downwards.
use Rattle.std.specs.Prelude.{ℕ, ◌+◌, ◌-◌, List, [], ◌∷◌, ◌++◌, length, codes, if◌then◌else◌, nat_eq, decimal}
use Rattle.thp_metrics.specs.declared.column.Column.{Column}
use Rattle.thp_metrics.specs.declared.stage.Stage.{Stage}
use Rattle.thp_drawing.specs.Quantities.{most_in, pages_most, prefixes_of, quantity_class, span_in, stage_class, sum_up_to}
use Rattle.thp_drawing.specs.Scales.{scaled, times}
use Rattle.thp_drawing.specs.declared.area.Height.{Height}
use Rattle.thp_drawing.specs.declared.area.Height.TheVariants.{Least, Greatest, UpTo}
use Rattle.thp_drawing.specs.declared.node.DrawnNode.{DrawnNode}
use Rattle.thp_drawing.specs.declared.quantity.Quantity.{Quantity}

-- the height of column j, on a scale where `most` is 1,000 high: of the least or the greatest number of a quantity, or of the
-- mean number of pages up to a stage
abbrev pub height_at : Height → ℕ → Column → ℕ
height_at (Least q most) j c = scaled 1000 (span_in q c).least most
height_at (Greatest q most) j c = scaled 1000 (span_in q c).greatest most
height_at (UpTo x w prefixes most) j c = scaled 1000 (sum_up_to x c.pages) (times (prefixes_of w prefixes j) most)

-- a step to this height, and this far to the right
abbrev pub step_to : List ℕ → ℕ → ℕ → List ℕ
step_to sign high wide = codes "V" ++ sign ++ decimal high ++ codes "h" ++ decimal wide

-- the width of column j of n: from its position to that of the next
abbrev pub column_width : ℕ → ℕ → ℕ
column_width n j = scaled 6000 (j + 1) n - scaled 6000 j n

-- the outline over columns from column j on, of n in all: to each column's height, and right by its width
abbrev pub outline : List ℕ → Height → ℕ → ℕ → List Column → List ℕ
outline sign height n j [] = []
outline sign height n j (c ∷ more) = step_to sign (height_at height j c) (column_width n j) ++ outline sign height n (j + 1) more

-- the area of this class and shade below the outline
unfoldable pub area : List ℕ → List ℕ → List ℕ → Height → List Column → List ℕ
area kind shade sign height columns =
    (codes "<path class=\"" ++ kind ++ shade ++ codes "\" d=\"M0 0")
    ++ outline sign height (length columns) 0 columns ++ codes "V0z\"/>\n"

-- the greatest of each column, pale, and on top of it the least; columns of one prefix have only one number
unfoldable pub quantity_areas : List ℕ → Quantity → ℕ → DrawnNode → List ℕ
quantity_areas sign q most d =
    (if nat_eq d.width 1 then [] else area (quantity_class q) (codes " pale") sign (Greatest q most) d.columns.items)
    ++ area (quantity_class q) [] sign (Least q most) d.columns.items

-- the pages of a stage, and below them those of earlier ones; nothing if no page was ever in it
abbrev pub stage_area : Stage → DrawnNode → List ℕ
stage_area x d =
    if nat_eq (most_in x d.columns.items) 0 then []
    else area (stage_class x) [] (codes "-") (UpTo x d.width d.prefixes (pages_most d)) d.columns.items
