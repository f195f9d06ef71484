-- The stages of a page's life, and the number of pages in each.
use Rattle.std.specs.Prelude.{ℕ, Bool, true, false, get_or, nat_eq, if◌then◌else◌, Option, Some, None, List, [], ◌∷◌, map}
use Rattle.std.specs.List.{range_with_len}
use Rattle.thp_history.specs.declared.shape.Shape.{Shape}
use Rattle.thp_history.specs.Prelude.{allocations, is_live, is_split, History, count_below, is_partly_mapped}
use Rattle.thp_page.specs.declared.standing.Standing.{Standing}
use Rattle.thp_page.specs.declared.standing.Standing.TheVariants as at
use Rattle.thp_live_pages.specs.Prelude.{standing_of}
use Rattle.thp_metrics.specs.declared.stage.Stage.{Stage}
use Rattle.thp_metrics.specs.declared.stage.Stage.TheVariants.{Allocated, PartlyMapped, Queued, InBatch, Split}

-- the stage, given whether the page was split, its list, and whether it is partly mapped
abbrev pub stage_by : Bool → Standing → Bool → Stage
stage_by true standing partly = Split
stage_by false (at.Batch c) partly = InBatch
stage_by false at.Queued partly = Queued
stage_by false at.Nowhere true = PartlyMapped
stage_by false at.Nowhere false = Allocated

-- the stage of page p; none if the page is not live
abbrev pub stage_of : Shape → History → ℕ → Option Stage
stage_of s h p =
    if is_live h p
    then Some (stage_by (is_split h p) (standing_of s h p) (is_partly_mapped s h p))
    else None

abbrev pub rank : Stage → ℕ
rank Allocated = 0
rank PartlyMapped = 1
rank Queued = 2
rank InBatch = 3
rank Split = 4

-- it is this stage
abbrev pub is_stage : Stage → Option Stage → Bool
is_stage x None = false
is_stage x (Some y) = nat_eq (rank x) (rank y)

-- the number of pages in this stage
abbrev pub pages_in : Shape → History → Stage → ℕ
pages_in s h x = count_below (allocations h) (λ p. is_stage x (stage_of s h p))

-- the stages, in the order in which numbers of pages are given
abbrev pub all_stages : List Stage
all_stages = Allocated ∷ PartlyMapped ∷ Queued ∷ InBatch ∷ Split ∷ []

abbrev pub pages_at : Shape → History → List ℕ
pages_at s h = map (pages_in s h) all_stages

-- the number for this stage, among those for all stages
abbrev pub stage_count : List ℕ → Stage → ℕ
stage_count counts x = get_or counts (rank x) 0

-- the number of pages whose individual stages are recorded
abbrev pub shown_pages : ℕ
shown_pages = 60

-- the stages of the first pages allocated
abbrev pub stages_at : Shape → History → List (Option Stage)
stages_at s h = map (stage_of s h) (range_with_len 0 shown_pages)
