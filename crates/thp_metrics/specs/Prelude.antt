-- Re-exports the definitions and types of this library: other files import those that they cite from here, in one line.
pub use Rattle.thp_metrics.specs.Arrivals.{Arrived, Ascends, KeepsWaits, first_arrival, first_since, since_of}
pub use Rattle.thp_metrics.specs.Columns.{IsWidth, all_callers, column_of, columns_of, last_stages, parts, sums_of}
pub use Rattle.thp_metrics.specs.Counting.{MayCount, MayGo, callers_in, count_at, count_gone, count_more}
pub use Rattle.thp_metrics.specs.Finding.{KeepsFinds, MayNote, PinHasRoom, noted, stuck_among, stuck_by, with_pin_count}
pub use Rattle.thp_metrics.specs.Folding.{AllLow, AreFull, Folds, HasLowSums, HasRoomForOne, all_of}
pub use Rattle.thp_metrics.specs.Following.{CountsBatches, GoesAlong, MayEnter, MayLeave, batched, entered, left, staged}
pub use Rattle.thp_metrics.specs.Joining.{AreWithin, ColumnsAreLow, FitTogether, added, both, in_pairs}
pub use Rattle.thp_metrics.specs.Series.{numbers_at, series}
pub use Rattle.thp_metrics.specs.Spans.{greatest, joined, least, span_of}
unfoldable pub use Rattle.thp_metrics.specs.Spans.{greatest_below}
pub use Rattle.thp_metrics.specs.Spots.{batch_by, flight_holder, home, home_by, is_caller}
pub use Rattle.thp_metrics.specs.Stages.{all_stages, is_stage, pages_at, pages_in, rank, shown_pages, stage_by, stage_count, stage_of, stages_at}
pub use Rattle.thp_metrics.specs.Stuck.{AreStuck, IsStuck, finds, finds_pinned}
pub use Rattle.thp_metrics.specs.Waits.{add_wait, callers_at, longest_wait, shown_callers, waits, waits_in}
unfoldable pub use Rattle.thp_metrics.specs.Waits.{waited}
pub use Rattle.thp_metrics.specs.declared.column.Column.{Column}
pub use Rattle.thp_metrics.specs.declared.waiting.PinCount.{PinCount}
pub use Rattle.thp_metrics.specs.declared.columns.Folded.{Folded}
pub use Rattle.thp_metrics.specs.declared.numbers.Numbers.{Numbers}
pub use Rattle.thp_metrics.specs.declared.stage.Stage.{Stage}
pub use Rattle.thp_metrics.specs.declared.stage.Stage.TheVariants.{Allocated, InBatch, PartlyMapped, Queued, Split}
pub use Rattle.thp_metrics.specs.declared.waiting.StuckPage.{StuckPage}
pub use Rattle.thp_metrics.specs.declared.waiting.Waiting.TheInside.{Inside}
