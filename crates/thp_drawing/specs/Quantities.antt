-- The quantities that are drawn over a node's events: their names, appearance, and numbers.
use Rattle.std.specs.Prelude.{ℕ, ◌+◌, ◌-◌, ◌/◌, min, max, List, [], ◌∷◌, codes, take}
use Rattle.thp_metrics.specs.declared.column.Column.{Column}
use Rattle.thp_metrics.specs.declared.numbers.Numbers.{Numbers}
use Rattle.thp_metrics.specs.declared.column.Span.{Span}
use Rattle.thp_metrics.specs.declared.stage.Stage.{Stage}
use Rattle.thp_metrics.specs.declared.stage.Stage.TheVariants.{Allocated, PartlyMapped, Queued, InBatch, Split}
use Rattle.thp_metrics.specs.Prelude.{column_of, rank, stage_count}
use Rattle.thp_drawing.specs.Scales.{doubled_step, plus, plus_all, round_step, times}
use Rattle.thp_drawing.specs.declared.node.DrawnNode.{DrawnNode}
use Rattle.thp_drawing.specs.declared.quantity.Quantity.{Quantity}
use Rattle.thp_drawing.specs.declared.quantity.Quantity.TheVariants.{Queue, InBatches, Held, Given, Splits, PinnedTries, UnderusedSplits, Wait, Nothing}

-- the name of a quantity, its class, and what its numbers count; some have the colours of stages
abbrev pub quantity_row : Quantity → List ℕ × List ℕ × List ℕ
quantity_row Queue = (codes "queue", codes "s2", codes "pages")
quantity_row InBatches = (codes "in batches", codes "s3", codes "pages")
quantity_row Held = (codes "held", codes "held", codes "frames")
quantity_row Given = (codes "given back", codes "given", codes "frames")
quantity_row Splits = (codes "split", codes "s4", codes "tries")
quantity_row PinnedTries = (codes "found pinned", codes "pin", codes "tries")
quantity_row UnderusedSplits = (codes "split as underused", codes "s1", codes "tries")
quantity_row Wait = (codes "the oldest page has waited", codes "wait", codes "events")
quantity_row Nothing = ([], [], codes "pages")

abbrev pub quantity_name : Quantity → List ℕ
quantity_name q = (quantity_row q).0

abbrev pub quantity_class : Quantity → List ℕ
quantity_class q = (quantity_row q).1

abbrev pub quantity_unit : Quantity → List ℕ
quantity_unit q = (quantity_row q).2

-- the step of its numbers up to n
abbrev pub quantity_step : Quantity → ℕ → ℕ
quantity_step Held n = doubled_step n
quantity_step Given n = doubled_step n
quantity_step _ n = round_step n

-- its least and its greatest number in a column
abbrev pub span_in : Quantity → Column → Span
span_in Queue c = c.queue
span_in InBatches c = c.in_batches
span_in Held c = c.held
span_in Given c = c.given
span_in Splits c = c.splits
span_in PinnedTries c = c.pinned_tries
span_in UnderusedSplits c = c.underused_splits
span_in Wait c = c.wait
span_in Nothing c = record { least = 0; greatest = 0 }

-- its number after these events: the one in the column of this prefix alone
abbrev pub last_of : Quantity → Numbers → ℕ
last_of q n = (span_in q (column_of (n ∷ []))).least

-- its greatest number in any column
abbrev pub most_of : Quantity → List Column → ℕ
most_of q [] = 0
most_of q (c ∷ more) = max (span_in q c).greatest (most_of q more)

-- the name of a stage, and its class
abbrev pub stage_row : Stage → List ℕ × List ℕ
stage_row Allocated = (codes "allocated", codes "s0")
stage_row PartlyMapped = (codes "partly mapped", codes "s1")
stage_row Queued = (codes "queued", codes "s2")
stage_row InBatch = (codes "in a batch", codes "s3")
stage_row Split = (codes "split", codes "s4")

abbrev pub stage_name : Stage → List ℕ
stage_name x = (stage_row x).0

abbrev pub stage_class : Stage → List ℕ
stage_class x = (stage_row x).1

-- the number of pages in a stage or in an earlier one, given that of each
abbrev pub sum_up_to : Stage → List ℕ → ℕ
sum_up_to x counts = plus_all (take (rank x + 1) counts)

-- the greatest number of pages in it, summed over a column's prefixes: 0 if the stage does not occur
abbrev pub most_in : Stage → List Column → ℕ
most_in x [] = 0
most_in x (c ∷ more) = max (stage_count c.pages x) (most_in x more)

-- the number of prefixes in column j, given w per column and this many in all
abbrev pub prefixes_of : ℕ → ℕ → ℕ → ℕ
prefixes_of w prefixes j = min w (prefixes - times w j)

-- the mean number of pages of column j, rounded up
abbrev pub mean_pages : ℕ → ℕ → ℕ → Column → ℕ
mean_pages w prefixes j c =
    plus (sum_up_to Split c.pages) (prefixes_of w prefixes j - 1) / max (prefixes_of w prefixes j) 1

-- the greatest mean of columns from column j on
abbrev pub most_pages : ℕ → ℕ → ℕ → List Column → ℕ
most_pages w prefixes j [] = 0
most_pages w prefixes j (c ∷ more) = max (mean_pages w prefixes j c) (most_pages w prefixes (j + 1) more)

abbrev pub pages_most : DrawnNode → ℕ
pages_most d = most_pages d.width d.prefixes 0 d.columns.items
