-- The columns of a node: their width, and the content of each.
use Rattle.std.specs.Prelude.{◌≡◌, ℕ, ◌*◌, ◌^◌, ◌≤◌, zero, suc, List, [], ◌∷◌, Option, length, map, take, drop, bit_or, sum_by}
use Rattle.thp_metrics.specs.declared.column.Column.{Column}
use Rattle.thp_metrics.specs.declared.numbers.Numbers.{Numbers}
use Rattle.thp_metrics.specs.declared.stage.Stage.{Stage}
use Rattle.thp_metrics.specs.Spans.{span_of}
use Rattle.thp_metrics.specs.Stages.{all_stages, stage_count}

-- the greatest number of columns of a node
abbrev pub max_columns : ℕ
max_columns = 600

-- w is the least power of two such that columns of w prefixes each suffice for n prefixes
pub record IsWidth (n w : ℕ) : Type 0 where
  pub power : ℕ
  pub power_is : w ≡ 2 ^ power
  pub serves : n ≤ max_columns * w
  pub least : (k : ℕ) → n ≤ max_columns * 2 ^ k → w ≤ 2 ^ k

-- the list in parts of w each, the last of which can have fewer: at most m parts
abbrev pub parts : {X : Type 0} → ℕ → ℕ → List X → List (List X)
parts zero w xs = []
parts (suc m) w [] = []
parts (suc m) w (x ∷ xs) = take w (x ∷ xs) ∷ parts m w (drop w (x ∷ xs))

-- the number of pages in each stage, summed over prefixes
abbrev pub sums_of : List Numbers → List ℕ
sums_of ns = map (λ x. sum_by (λ (n : Numbers). stage_count n.pages x) ns) all_stages

-- the callers that have pages in their batches after one of some prefixes
abbrev pub all_callers : List Numbers → ℕ
all_callers [] = 0
all_callers (n ∷ []) = n.callers
all_callers (n ∷ m ∷ ns) = bit_or n.callers (all_callers (m ∷ ns))

-- the stages after the last of some prefixes
abbrev pub last_stages : List Numbers → List (Option Stage)
last_stages [] = []
last_stages (n ∷ []) = n.stages
last_stages (n ∷ m ∷ ns) = last_stages (m ∷ ns)

-- the column of its prefixes
abbrev pub column_of : List Numbers → Column
column_of ns = record {
  queue = span_of (map (λ (n : Numbers). n.queue) ns);
  in_batches = span_of (map (λ (n : Numbers). n.in_batches) ns);
  held = span_of (map (λ (n : Numbers). n.held) ns);
  given = span_of (map (λ (n : Numbers). n.given) ns);
  splits = span_of (map (λ (n : Numbers). n.splits) ns);
  underused_splits = span_of (map (λ (n : Numbers). n.underused_splits) ns);
  pinned_tries = span_of (map (λ (n : Numbers). n.pinned_tries) ns);
  wait = span_of (map (λ (n : Numbers). n.wait) ns);
  callers = all_callers ns;
  pages = sums_of ns;
  stages = last_stages ns;
}

-- the columns of these prefixes, w in each
abbrev pub columns_of : ℕ → List Numbers → List Column
columns_of w ns = map column_of (parts (length ns) w ns)
