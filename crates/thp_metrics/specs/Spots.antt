-- The positions of pages: by block, if they wait, and by caller, if they are in a batch. No public clause cites this module.
use Rattle.std.specs.Prelude.{ℕ, Bool, false, nat_eq, if◌then◌else◌, Option, Some, None}
use Rattle.thp_history.specs.declared.shape.Shape.{Shape}
use Rattle.thp_history.specs.Prelude.{is_live, History}
use Rattle.thp_page.specs.declared.standing.Standing.{Standing}
use Rattle.thp_page.specs.declared.standing.Standing.TheVariants as at
use Rattle.thp_live_pages.specs.Prelude.{block_of, standing_of}
use Rattle.thp_metrics.specs.declared.stage.Stage.{Stage}
use Rattle.thp_metrics.specs.Stages.{stage_of}
use Rattle.thp_metrics.specs.Waits.{waits_in}

abbrev pub home_by : Option Stage → Option ℕ → Option ℕ
home_by stage block = if waits_in stage then block else None

-- the block of page p, if it waits
abbrev pub home : Shape → History → ℕ → Option ℕ
home s h p = home_by (stage_of s h p) (block_of h p)

abbrev pub batch_by : Standing → Option ℕ
batch_by (at.Batch c) = Some c
batch_by _ = None

-- the caller whose batch live page p is in
abbrev pub flight_holder : Shape → History → ℕ → Option ℕ
flight_holder s h p = if is_live h p then batch_by (standing_of s h p) else None

-- it is this caller
abbrev pub is_caller : ℕ → Option ℕ → Bool
is_caller c None = false
is_caller c (Some d) = nat_eq d c
