-- The data about a node, event by event. No public clause cites this module.
use Rattle.std.specs.Prelude.{◌≡◌, ℕ, ◌+◌, ◌-◌, ◌<◌, ◌^◌, List, length, Option, Some, None, set, nat_lt, if◌then◌else◌}
use Rattle.thp_history.specs.declared.shape.Shape.{Shape}
use Rattle.thp_history.specs.Prelude.{allocations, History, IsLegal, count_below}
use Rattle.thp_check.specs.Prelude.{Replayed}
use Rattle.thp_metrics.specs.declared.numbers.Numbers.{Numbers}
use Rattle.thp_metrics.specs.declared.stage.Stage.{Stage}
use Rattle.thp_metrics.specs.Counting.{count_at}
use Rattle.thp_metrics.specs.Series.{numbers_at, series}
use Rattle.thp_metrics.specs.Spots.{flight_holder, is_caller}
use Rattle.thp_metrics.specs.Stages.{rank, shown_pages, stage_count}

-- a page left this stage
abbrev pub left : List ℕ → Option Stage → List ℕ
left counts None = counts
left counts (Some x) = set counts (rank x) (stage_count counts x - 1)

-- a page entered this stage
abbrev pub entered : List ℕ → Option Stage → List ℕ
entered counts None = counts
entered counts (Some x) = set counts (rank x) (stage_count counts x + 1)

-- the stages of the first pages allocated, with this stage of the page of an event
abbrev pub staged : List (Option Stage) → Option ℕ → Option Stage → List (Option Stage)
staged stages None stage = stages
staged stages (Some page) stage = if nat_lt page shown_pages then set stages page stage else stages

-- there is a page that can leave it
abbrev pub MayLeave : List ℕ → Option Stage → Type 0
MayLeave counts None = Unit {0}
MayLeave counts (Some x) = 0 < stage_count counts x

-- in addition there is room for one to enter it
abbrev pub MayEnter : List ℕ → Option Stage → Type 0
MayEnter counts None = Unit {0}
MayEnter counts (Some x) = stage_count counts x + 1 < 2 ^ 64

-- the numbers are those of the events so far, which are legal
pub record GoesAlong (r : Replayed) (numbers : Numbers) (columns : List Numbers) : Type 0 where
  pub legal : IsLegal r.shape r.history
  pub numbers_are : numbers ≡ numbers_at r.shape r.history
  pub columns_are : columns ≡ series r.shape r.history

-- the number of pages in the batch of caller c
abbrev pub batched : Shape → History → ℕ → ℕ
batched s h c = count_below (allocations h) (λ p. is_caller c (flight_holder s h p))

-- the counts are those of callers 0 to 63
pub record CountsBatches (r : Replayed) (counts : List ℕ) : Type 0 where
  pub size : length counts ≡ 64
  pub each : (c : ℕ) → c < 64 → count_at counts c ≡ batched r.shape r.history c
