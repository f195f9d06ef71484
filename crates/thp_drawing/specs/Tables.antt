-- The numbers of nodes as a table: lines of tab-separated fields, the first of which is the kind of line (this project's format).
use Rattle.std.specs.Prelude.{ℕ, zero, suc, ◌+◌, ◌*◌, ◌-◌, ◌%◌, ◌^◌, min, List, [], ◌∷◌, ◌++◌, Option, Some, None, codes, if◌then◌else◌, nat_eq, decimal}
use Rattle.thp_journal_writer.specs.Prelude.{event_line, ended}
use Rattle.thp_drawing.specs.declared.node.IllegalEvent.{IllegalEvent}
use Rattle.thp_metrics.specs.declared.column.Column.{Column}
use Rattle.thp_metrics.specs.declared.stage.Stage.{Stage}
use Rattle.thp_metrics.specs.declared.stage.Stage.TheVariants.{Allocated, PartlyMapped, Queued, InBatch, Split}
use Rattle.thp_metrics.specs.declared.waiting.StuckPage.{StuckPage}
use Rattle.thp_metrics.specs.Prelude.{shown_callers, stage_count}
use Rattle.thp_drawing.specs.Bars.{is_among}
use Rattle.thp_drawing.specs.Elements.{field}
use Rattle.thp_drawing.specs.declared.node.DrawnNode.{DrawnNode}

-- the threshold of a shape, or that it has none
abbrev pub threshold_field : Option ℕ → List ℕ
threshold_field None = codes "\toff"
threshold_field (Some threshold) = field threshold

-- the number for each stage
abbrev pub stage_fields : List ℕ → List ℕ
stage_fields counts =
    field (stage_count counts Allocated) ++ field (stage_count counts PartlyMapped) ++ field (stage_count counts Queued)
    ++ field (stage_count counts InBatch) ++ field (stage_count counts Split)

-- the numbers of a column: the least and the greatest of each series
unfoldable pub column_numbers : Column → List ℕ
column_numbers c =
    field c.queue.least ++ field c.queue.greatest ++ field c.in_batches.least ++ field c.in_batches.greatest
    ++ field c.held.least ++ field c.held.greatest ++ field c.given.least ++ field c.given.greatest
    ++ field c.splits.least ++ field c.splits.greatest ++ field c.underused_splits.least
    ++ field c.underused_splits.greatest ++ field c.pinned_tries.least ++ field c.pinned_tries.greatest
    ++ field c.wait.least ++ field c.wait.greatest

-- a page's stage as a letter; a page that is not live has none
abbrev pub stage_letter : Option Stage → List ℕ
stage_letter None = codes "-"
stage_letter (Some Allocated) = codes "a"
stage_letter (Some PartlyMapped) = codes "m"
stage_letter (Some Queued) = codes "q"
stage_letter (Some InBatch) = codes "b"
stage_letter (Some Split) = codes "s"

abbrev pub stage_letters : List (Option Stage) → List ℕ
stage_letters [] = []
stage_letters (stage ∷ more) = stage_letter stage ++ stage_letters more

-- caller c, if it is in this set, after a comma if a lower one is
abbrev pub caller_item : ℕ → ℕ → List ℕ
caller_item callers c =
    if is_among c callers then (if nat_eq (callers % 2 ^ c) 0 then [] else codes ",") ++ decimal c else []

-- those of the first k callers that are in this set
abbrev pub caller_items : ℕ → ℕ → List ℕ
caller_items callers zero = []
caller_items callers (suc k) = caller_items callers k ++ caller_item callers k

-- the callers of a set that is given as bits
unfoldable pub callers_joined : ℕ → List ℕ
callers_joined callers = caller_items callers shown_callers

abbrev pub caller_words : ℕ → List ℕ
caller_words callers = if nat_eq callers 0 then codes "-" else callers_joined callers

-- the line of a column of node n, with its first and its last prefix; the last fields are the sum of each stage, the stages of
-- the first pages allocated, and the callers that had pages in their batches
unfoldable pub column_line : ℕ → ℕ → ℕ → Column → List ℕ
column_line n first last c =
    (codes "column" ++ field n ++ field first ++ field last) ++ column_numbers c ++ stage_fields c.pages ++ codes "\t"
    ++ stage_letters c.stages ++ codes "\t" ++ caller_words c.callers ++ codes "\n"

-- the lines of columns from column j on, w prefixes each of so many in all
abbrev pub column_lines : ℕ → ℕ → ℕ → ℕ → List Column → List ℕ
column_lines n w prefixes j [] = []
column_lines n w prefixes j (c ∷ more) =
    column_line n (w * j) (min (w * j + w) prefixes - 1) c ++ column_lines n w prefixes (j + 1) more

-- the numbers of a node after its shape: its events, the width of a column, and the numbers after the last event but those of its pages
unfoldable pub node_numbers : DrawnNode → List ℕ
node_numbers d =
    field (d.prefixes - 1) ++ field d.width ++ field d.last.queue ++ field d.last.in_batches
    ++ field d.last.held ++ field d.last.given ++ field d.last.splits ++ field d.last.underused_splits
    ++ field d.last.pinned_tries ++ field d.last.wait

-- the number of the line with the first illegal event in the journal's text, and that line, whose end ends the node's own
abbrev pub illegal_fields : Option IllegalEvent → List ℕ
illegal_fields None = codes "\t-\t-\n"
illegal_fields (Some illegal) = field illegal.line ++ codes "\t" ++ ended (event_line illegal.event)

-- the line of node n
unfoldable pub node_table_line : ℕ → DrawnNode → List ℕ
node_table_line n d =
    (codes "node" ++ field n ++ field d.shape.blocks ++ field d.shape.order) ++ threshold_field d.shape.underused
    ++ node_numbers d ++ stage_fields d.last.pages ++ illegal_fields d.illegal

-- the line of a stuck page of node n: the number of times it was found pinned, and the event since which it waits
abbrev pub stuck_line : ℕ → StuckPage → List ℕ
stuck_line n x = codes "stuck" ++ field n ++ field x.page ++ field x.finds ++ field x.since ++ codes "\n"

abbrev pub stuck_table_lines : ℕ → List StuckPage → List ℕ
stuck_table_lines n [] = []
stuck_table_lines n (x ∷ more) = stuck_line n x ++ stuck_table_lines n more

-- the lines of node n: its own, those of its columns, and those of its stuck pages
unfoldable pub node_lines : ℕ → DrawnNode → List ℕ
node_lines n d = node_table_line n d ++ column_lines n d.width d.prefixes 0 d.columns.items ++ stuck_table_lines n d.stuck.items

-- the lines of nodes from node n on
abbrev pub table_lines_from : ℕ → List DrawnNode → List ℕ
table_lines_from n [] = []
table_lines_from n (d ∷ more) = node_lines n d ++ table_lines_from (n + 1) more

-- the names of the fields
unfoldable pub heads : List ℕ
heads =
    codes "#node\tnode\tblocks\torder\tunderused\tlegal\twidth\tqueue-last\tin-batches-last\theld-last\tgiven-last\tsplits-last\tunderused-splits-last\tpinned-tries-last\twait-last\tallocated-last\tpartly-mapped-last\tqueued-last\tin-batch-last\tsplit-last\tillegal-line\tillegal-event\n"
    ++ codes "#column\tnode\tfirst\tlast\tqueue-least\tqueue-greatest\tin-batches-least\tin-batches-greatest\theld-least\theld-greatest\tgiven-least\tgiven-greatest\tsplits-least\tsplits-greatest\tunderused-splits-least\tunderused-splits-greatest\tpinned-tries-least\tpinned-tries-greatest\twait-least\twait-greatest\tallocated-sum\tpartly-mapped-sum\tqueued-sum\tin-batch-sum\tsplit-sum\tstages\tcallers\n"
    ++ codes "#stuck\tnode\tpage\tfinds\tsince\n"

-- the table of nodes
abbrev pub table_text : List DrawnNode → List ℕ
table_text nodes = heads ++ table_lines_from 0 nodes

-- the table of node n alone, with its number
abbrev pub node_table : ℕ → DrawnNode → List ℕ
node_table n d = heads ++ node_lines n d
