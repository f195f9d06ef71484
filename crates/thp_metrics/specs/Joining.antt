-- How two columns are merged. No public clause cites this module.
use Rattle.std.specs.Prelude.{⊤, ℕ, ◌+◌, ◌^◌, ◌<◌, ◌≤◌, List, [], ◌∷◌, bit_or, map}
use Rattle.thp_metrics.specs.declared.column.Column.{Column}
use Rattle.thp_metrics.specs.declared.stage.Stage.{Stage}
use Rattle.thp_metrics.specs.Spans.{joined}
use Rattle.thp_metrics.specs.Stages.{all_stages, stage_count}

-- the sums of each stage added
abbrev pub added : List ℕ → List ℕ → List ℕ
added a b = map (λ x. stage_count a x + stage_count b x) all_stages

-- the column of the prefixes of both
abbrev pub both : Column → Column → Column
both a b = record {
  queue = joined a.queue b.queue;
  in_batches = joined a.in_batches b.in_batches;
  held = joined a.held b.held;
  given = joined a.given b.given;
  splits = joined a.splits b.splits;
  underused_splits = joined a.underused_splits b.underused_splits;
  pinned_tries = joined a.pinned_tries b.pinned_tries;
  wait = joined a.wait b.wait;
  callers = bit_or a.callers b.callers;
  pages = added a.pages b.pages;
  stages = b.stages;
}

-- each pair of neighbours merged
abbrev pub in_pairs : List Column → List Column
in_pairs [] = []
in_pairs (a ∷ []) = a ∷ []
in_pairs (a ∷ b ∷ more) = both a b ∷ in_pairs more

-- each sum is at most this large
abbrev pub AreWithin : ℕ → List ℕ → Type 0
AreWithin most sums = (x : Stage) → stage_count sums x ≤ most

-- two columns' sums can be added
abbrev pub FitTogether : List ℕ → List ℕ → Type 0
FitTogether a b = (x : Stage) → stage_count a x + stage_count b x < 2 ^ 128

-- the same for any two of these columns
abbrev pub ColumnsAreLow : List Column → Type 0
ColumnsAreLow [] = ⊤
ColumnsAreLow (c ∷ more) = AreWithin (2 ^ 126) c.pages × ColumnsAreLow more
