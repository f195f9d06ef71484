-- Re-exports the definitions and types of this library: other files import those that they cite from here, in one line.
pub use Rattle.thp_history.specs.Asking.{AsksBelow, AsksEvents}
pub use Rattle.thp_history.specs.BlockLaws.{SameButBlocks, event_with, first_that, keeps_block, with_block}
unfoldable pub use Rattle.thp_history.specs.BlockLaws.{is_block_held, least_free, with_least_blocks, without_blocks}
pub use Rattle.thp_history.specs.Checks.{IsCheckResult}
pub use Rattle.thp_history.specs.Counters.{add_split_pmds, add_split_underused, counters_of, is_failed_try, is_page_split, queues, splits_pmds, splits_underused, thp_deferred_split_page, thp_split_page, thp_split_page_failed}
unfoldable pub use Rattle.thp_history.specs.Counters.{thp_split_pmd, thp_underused_split_page}
pub use Rattle.thp_history.specs.Counts.{allocates, allocations, closes, frees, is_alloc, is_closed, is_freed, is_live, is_mapped, is_queued, is_split, is_used, loses_use, maps, maps_whole, own, pins, pins_page, splits, total, unmaps, unmaps_whole, unpins_page, whole}
pub use Rattle.thp_history.specs.FlightSteps.{flight_after, flight_by}
pub use Rattle.thp_history.specs.FrameLaws.{FramesAreKept, gives_frame}
pub use Rattle.thp_history.specs.Frames.{block_in_use, frames_given, frames_held, gives_back, is_held, keeps_frame, outcome, places, places_live, released}
unfoldable pub use Rattle.thp_history.specs.Frames.{given}
pub use Rattle.thp_history.specs.History.{History, by}
unfoldable pub use Rattle.thp_history.specs.History.{count_of, events_of, some_event}
pub use Rattle.thp_history.specs.Legal.{Fits, FitsAlloc, FitsBy, FitsSplit, FitsTaken, Gives, IsFirstMisfit, IsLegal, is_dropped}
pub use Rattle.thp_history.specs.Limits.{max_batch, max_blocks, max_callers, max_node_blocks, max_node_callers, max_order, max_subpages, min_order}
pub use Rattle.thp_history.specs.PageCalls.{Gains, Loses, gain_call, gain_what, is_about, loss_call, loss_what, page_call, recorded_call}
pub use Rattle.thp_history.specs.PageChanges.{page_outcome, page_released}
pub use Rattle.thp_history.specs.Pages.{IsFresh, IsPage, KeepsCounts, KeepsZero, PageSplit, PageState, PmdSplit, RangeMapped, RangeUnmapped, RangeWritten, RangeZeroed, Tallies, WholeMapped, WholeUnmapped, drops_use, gives_frames, has_use, holds, is_split_candidate, own_at, partly_after, some_in_range, total_at, used_set, zero_at, zero_count, zero_set}
unfoldable pub use Rattle.thp_history.specs.Pages.{page_refusal, size}
pub use Rattle.thp_history.specs.PlaceLaws.{acts_on, enters, is_others, takes_of}
pub use Rattle.thp_history.specs.Places.{flight, flights_after, flights_by, has_page, leaves, no_pages, queue_after, queue_by, standing, stands, takes_by, without}
unfoldable pub use Rattle.thp_history.specs.Places.{flights, is_taking, queue}
pub use Rattle.thp_history.specs.Refusals.{Call, alloc_page, call_of, first_of, most, refusal_of, scan, some_of, take}
unfoldable pub use Rattle.thp_history.specs.Refusals.{refusal}
pub use Rattle.thp_history.specs.RequestLaws.{asked}
unfoldable pub use Rattle.thp_history.specs.RequestLaws.{requests}
pub use Rattle.thp_history.specs.Rows.{HasTotals, few_used, first_run, large_pages, pinned_goes_to_the_tail, small_page_split, small_pages, underused_pinned, underused_scan}
pub use Rattle.thp_history.specs.Runs.{goes_back, is_pinned, next_page, put_back_events, rest_after, return_event, scan_events, split_next_events, still_flying, take_events, tries_of, try_event, unused}
pub use Rattle.thp_history.specs.Sets.{count_below, covers, has, one_alone, same_set, set_size}
unfoldable pub use Rattle.thp_history.specs.Sets.{each_below, set_of, some_below, sum_below}
pub use Rattle.thp_history.specs.Shapes.{IsNodeShape, IsShape, IsShapeWithin}
unfoldable pub use Rattle.thp_history.specs.Shapes.{subpages}
pub use Rattle.thp_history.specs.Totals.{Adds, AddsUp, HasRoom, IsContext, frames_of, pmds_of, underused_of, with_loss}
pub use Rattle.thp_history.specs.Underused.{add_unmap, is_above, is_worth_split, shrinks_underused, unmaps_part, unmaps_some, writes, zero_after, zero_filled, zeroes}
unfoldable pub use Rattle.thp_history.specs.Underused.{is_partly_mapped, is_zero_filled}
pub use Rattle.thp_history.specs.UnderusedLaws.{finds_used}
pub use Rattle.thp_history.specs.Words.{AreWords, get_or-set_of, length-set_of, words_are}
unfoldable pub use Rattle.thp_history.specs.Words.{in_words, words_of}
pub use Rattle.thp_history.specs.declared.events.Event.{Event}
pub use Rattle.thp_history.specs.declared.events.Outcome.{Outcome}
pub use Rattle.thp_history.specs.declared.events.Outcome.TheVariants.{Freed, Queued, Stays}
pub use Rattle.thp_history.specs.declared.events.What.{What}
pub use Rattle.thp_history.specs.declared.refusal.Refusal.{Refusal}
pub use Rattle.thp_history.specs.declared.refusal.Refusal.TheVariants.{BadRange, Closed, Gone, IsSplit, NoBlock, NoPage, NotMapped, NotPinned, TooMany}
pub use Rattle.thp_history.specs.declared.shape.Shape.{Shape}
