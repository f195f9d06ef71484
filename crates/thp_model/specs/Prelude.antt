-- Re-exports the definitions of `thp_history`: they are cited under either name.
pub use Rattle.thp_history.specs.Prelude.{Adds, AddsUp, AreWords, AsksBelow, AsksEvents, Call, Fits, FitsAlloc, FitsBy, FitsSplit, FitsTaken, FramesAreKept, Gains, Gives, HasRoom, HasTotals, History, IsCheckResult, IsContext, IsFirstMisfit, IsFresh, IsLegal, IsNodeShape, IsPage, IsShape, IsShapeWithin, KeepsCounts, KeepsZero, Loses, PageSplit, PageState, PmdSplit, RangeMapped, RangeUnmapped, RangeWritten, RangeZeroed, SameButBlocks, Tallies, WholeMapped, WholeUnmapped, acts_on, add_split_pmds, add_split_underused, add_unmap, alloc_page, allocates, allocations, asked, block_in_use, by, call_of, closes, count_below, counters_of, covers, drops_use, enters, event_with, few_used, finds_used, first_of, first_run, first_that, flight, flight_after, flight_by, flights_after, flights_by, frames_given, frames_held, frames_of, frees, gain_call, gain_what, get_or-set_of, gives_back, gives_frame, gives_frames, goes_back, has, has_page, has_use, holds, is_about, is_above, is_alloc, is_closed, is_dropped, is_failed_try, is_freed, is_held, is_live, is_mapped, is_others, is_page_split, is_pinned, is_queued, is_split, is_split_candidate, is_used, is_worth_split, keeps_block, keeps_frame, large_pages, leaves, length-set_of, loses_use, loss_call, loss_what, maps, maps_whole, max_batch, max_blocks, max_callers, max_node_blocks, max_node_callers, max_order, max_subpages, min_order, most, next_page, no_pages, one_alone, outcome, own, own_at, page_call, page_outcome, page_released, partly_after, pinned_goes_to_the_tail, pins, pins_page, places, places_live, pmds_of, put_back_events, queue_after, queue_by, queues, recorded_call, refusal_of, released, rest_after, return_event, same_set, scan, scan_events, set_size, shrinks_underused, small_page_split, small_pages, some_in_range, some_of, split_next_events, splits, splits_pmds, splits_underused, standing, stands, still_flying, take, take_events, takes_by, takes_of, thp_deferred_split_page, thp_split_page, thp_split_page_failed, total, total_at, tries_of, try_event, underused_of, underused_pinned, underused_scan, unmaps, unmaps_part, unmaps_some, unmaps_whole, unpins_page, unused, used_set, whole, with_block, with_loss, without, words_are, writes, zero_after, zero_at, zero_count, zero_filled, zero_set, zeroes}
unfoldable pub use Rattle.thp_history.specs.Prelude.{count_of, each_below, events_of, flights, given, in_words, is_block_held, is_partly_mapped, is_taking, is_zero_filled, least_free, page_refusal, queue, refusal, requests, set_of, size, some_below, some_event, subpages, sum_below, thp_split_pmd, thp_underused_split_page, with_least_blocks, without_blocks, words_of}
