-- The numbers of a node's history, prefix by prefix.
use Rattle.std.specs.Prelude.{◌+◌, List, length, map, take}
use Rattle.std.specs.List.{range_with_len}
use Rattle.thp_history.specs.declared.shape.Shape.{Shape}
use Rattle.thp_history.specs.Prelude.{thp_split_page, thp_split_page_failed, thp_underused_split_page, frames_given, frames_held, History, queue, flights}
use Rattle.thp_metrics.specs.declared.numbers.Numbers.{Numbers}
use Rattle.thp_metrics.specs.Stages.{pages_at, stages_at}
use Rattle.thp_metrics.specs.Waits.{callers_at, longest_wait}

-- the numbers after these events
abbrev pub numbers_at : Shape → History → Numbers
numbers_at s h = record {
  queue = length (queue s h);
  in_batches = length (flights h);
  held = frames_held s h;
  given = frames_given h;
  splits = thp_split_page h;
  underused_splits = thp_underused_split_page s h;
  pinned_tries = thp_split_page_failed h;
  wait = longest_wait s h;
  callers = callers_at h;
  pages = pages_at s h;
  stages = stages_at s h;
}

-- the numbers of each prefix, from no event to all of them
abbrev pub series : Shape → History → List Numbers
series s h = map (λ n. numbers_at s (take n h)) (range_with_len 0 (length h + 1))
