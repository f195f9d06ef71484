-- The individual pages of a node, if few were allocated: a row for each, whose bars show its stages.
use Rattle.std.specs.Prelude.{ℕ, zero, suc, Bool, false, ◌+◌, ◌-◌, ◌/◌, ◌^◌, ◌&&◌, min, List, [], ◌++◌, codes, if◌then◌else◌, nat_eq, nat_le, nat_lt}
use Rattle.thp_history.specs.Prelude.{max_order}
use Rattle.thp_metrics.specs.declared.column.Column.{Column}
use Rattle.thp_metrics.specs.declared.stage.Stage.{Stage}
use Rattle.thp_metrics.specs.declared.stage.Stage.TheVariants.{Allocated, PartlyMapped, Queued, InBatch, Split}
use Rattle.thp_metrics.specs.Prelude.{shown_pages}
use Rattle.thp_drawing.specs.Axes.{tick}
use Rattle.thp_drawing.specs.Bars.{bar_at, bar_turns}
use Rattle.thp_drawing.specs.Quantities.{most_in, stage_class}
use Rattle.thp_drawing.specs.Scales.{plus, steps_in, times}
use Rattle.thp_drawing.specs.declared.bar.Bar.TheVariants.{PageIn}
use Rattle.thp_drawing.specs.declared.node.DrawnNode.{DrawnNode}

-- the number of pages allocated: each of their frames is held or was given back
abbrev pub allocated_pages : DrawnNode → ℕ
allocated_pages d = plus d.last.held d.last.given / 2 ^ min d.shape.order max_order

-- the number of starts and ends of page p's bars
abbrev pub page_turns : List Column → ℕ → ℕ
page_turns columns p =
    bar_turns (PageIn Allocated p) false columns + bar_turns (PageIn PartlyMapped p) false columns
    + bar_turns (PageIn Queued p) false columns + bar_turns (PageIn InBatch p) false columns
    + bar_turns (PageIn Split p) false columns

-- the same for the first k pages
abbrev pub turns_below : List Column → ℕ → ℕ
turns_below columns zero = 0
turns_below columns (suc k) = turns_below columns k + page_turns columns k

-- the same for all pages that can have a row
unfoldable pub row_turns : List Column → ℕ
row_turns columns = turns_below columns shown_pages

-- the greatest number of starts and ends for which bars can be distinguished
abbrev pub max_turns : ℕ
max_turns = 4000

abbrev pub has_rows : DrawnNode → Bool
has_rows d =
    nat_le 1 (allocated_pages d)
    && (nat_le (allocated_pages d) shown_pages && nat_le (row_turns d.columns.items) max_turns)

-- up to 24 rows are spaced widely, more are spaced closely
abbrev pub few_rows : ℕ
few_rows = 24

-- the height of each row, for this many rows
abbrev pub row_height : ℕ → ℕ
row_height count = if nat_le count few_rows then 140 else 90

-- the middle of row p
abbrev pub row_middle : ℕ → ℕ → ℕ
row_middle high p = plus (times high p) (high / 2)

-- the height of all rows
abbrev pub rows_height : ℕ → ℕ
rows_height count = times (row_height count) count

-- with more than so many pages, the first 60 have rows below the number of pages in each stage, if their bars can be distinguished
abbrev pub many_pages : ℕ
many_pages = 1000

abbrev pub first_rows_height : DrawnNode → ℕ
first_rows_height d =
    if nat_lt many_pages (allocated_pages d) && nat_le (row_turns d.columns.items) max_turns then rows_height shown_pages else 0

-- every row has its number, or every second if they are spaced closely
abbrev pub number_step : ℕ → ℕ
number_step count = if nat_le count few_rows then 1 else 2

-- the first k of the numbers, and thin lines through their rows
abbrev pub row_numbers : ℕ → ℕ → ℕ → List ℕ
row_numbers high step zero = []
row_numbers high step (suc k) = row_numbers high step k ++ tick [] (times step k) (row_middle high (times step k))

-- the number of numbers of this many rows
abbrev pub numbers_of : ℕ → ℕ
numbers_of count = steps_in (number_step count) (plus count (number_step count - 1))

-- the bars of the first k pages in a stage
abbrev pub stage_rows : Stage → ℕ → List Column → ℕ → List ℕ
stage_rows x high columns zero = []
stage_rows x high columns (suc k) = stage_rows x high columns k ++ bar_at (PageIn x k) (row_middle high k) columns

-- the width of bars
abbrev pub row_class : ℕ → List ℕ
row_class count = if nat_le count few_rows then codes "bar " else codes "bar thin "

-- these, or nothing if no page was ever in the stage
unfoldable pub stage_bars : Stage → ℕ → DrawnNode → List ℕ
stage_bars x count d =
    if nat_eq (most_in x d.columns.items) 0 then []
    else (codes "<path class=\"" ++ row_class count ++ stage_class x ++ codes "\" d=\"")
    ++ stage_rows x (row_height count) d.columns.items count ++ codes "\"/>\n"

-- this many rows: numbers, thin lines, and bars
unfoldable pub rows_drawn : ℕ → DrawnNode → List ℕ
rows_drawn count d =
    row_numbers (row_height count) (number_step count) (numbers_of count)
    ++ stage_bars Allocated count d ++ stage_bars PartlyMapped count d ++ stage_bars Queued count d
    ++ stage_bars InBatch count d ++ stage_bars Split count d
