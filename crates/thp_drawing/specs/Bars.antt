-- Bars: lines over those of a node's columns at which something holds.
use Rattle.std.specs.Prelude.{ℕ, ◌+◌, ◌/◌, ◌%◌, ◌^◌, ◌&&◌, Bool, true, false, List, [], ◌∷◌, ◌++◌, length, Option, Some, None, codes, nat_eq, nat_lt, slice_index_or, decimal}
use Rattle.thp_metrics.specs.declared.column.Column.{Column}
use Rattle.thp_metrics.specs.declared.stage.Stage.{Stage}
use Rattle.thp_metrics.specs.declared.stage.Stage.TheVariants.{Allocated, PartlyMapped, Queued, InBatch, Split}
use Rattle.thp_metrics.specs.Prelude.{shown_callers}
use Rattle.thp_drawing.specs.Scales.{scaled}
use Rattle.thp_drawing.specs.declared.bar.Bar.{Bar}
use Rattle.thp_drawing.specs.declared.bar.Bar.TheVariants.{PageIn, BatchOf}

-- the number of a stage; that of no stage is 0
abbrev pub stage_number : Option Stage → ℕ
stage_number None = 0
stage_number (Some Allocated) = 1
stage_number (Some PartlyMapped) = 2
stage_number (Some Queued) = 3
stage_number (Some InBatch) = 4
stage_number (Some Split) = 5

-- the stage of page p after a column's last prefix
abbrev pub stage_in : ℕ → List (Option Stage) → Option Stage
stage_in p stages = slice_index_or stages p None

-- caller c is in a set of callers given as bits
abbrev pub is_among : ℕ → ℕ → Bool
is_among c callers = nat_lt c shown_callers && nat_eq (callers / 2 ^ c % 2) 1

-- a bar covers the columns with this property: the page is in the stage, or the caller has pages in its batch
abbrev pub bar_covers : Bar → Column → Bool
bar_covers (PageIn x p) c = nat_eq (stage_number (stage_in p c.stages)) (stage_number (Some x))
bar_covers (BatchOf caller) c = is_among caller c.callers

-- between a column and the next, at this position: a line begins where the bar begins, and ends where the bar ends
abbrev pub line_turn : ℕ → ℕ → Bool → Bool → List ℕ
line_turn y x false false = []
line_turn y x false true = codes "M" ++ decimal x ++ codes " " ++ decimal y
line_turn y x true false = codes "H" ++ decimal x
line_turn y x true true = []

-- the number of starts and ends of a bar there
abbrev pub turn_count : Bool → Bool → ℕ
turn_count false false = 0
turn_count false true = 1
turn_count true false = 1
turn_count true true = 0

-- the number of starts and ends of a bar, given whether it covers the column before these
abbrev pub bar_turns : Bar → Bool → List Column → ℕ
bar_turns bar before [] = 0
bar_turns bar before (c ∷ more) = turn_count before (bar_covers bar c) + bar_turns bar (bar_covers bar c) more

-- the lines of a bar from column j on, of n in all, at this height, given whether it covers the column before
abbrev pub bar_lines : Bar → ℕ → ℕ → ℕ → Bool → List Column → List ℕ
bar_lines bar y n j before [] = line_turn y (scaled 6000 j n) before false
bar_lines bar y n j before (c ∷ more) =
    line_turn y (scaled 6000 j n) before (bar_covers bar c) ++ bar_lines bar y n (j + 1) (bar_covers bar c) more

-- all of them
abbrev pub bar_at : Bar → ℕ → List Column → List ℕ
bar_at bar y columns = bar_lines bar y (length columns) 0 false columns
