-- The limits of a run (this project's profile).
use Rattle.std.specs.Prelude.{◌≡◌, ◌≤◌, ◌<◌, ◌&&◌, ◌^◌, nat_le, nat_lt, ℕ, Bool, true, List, length, slice_index, slice_index_or, Option, Some, None}
use Rattle.std.specs.List.{list_all}
use Rattle.thp_history.specs.Prelude.{max_blocks, max_order, min_order}
use Rattle.thp_script.specs.Limits.{max_nodes, max_workers}

-- one to 8 nodes of 1 to 4,096 blocks each, and 1 to 63 workers
pub record IsWithinLimits (nodes blocks workers : ℕ) : Type 0 where
  pub least_nodes : 1 ≤ nodes
  pub most_nodes : nodes ≤ max_nodes
  pub least_blocks : 1 ≤ blocks
  pub most_blocks : blocks ≤ max_blocks
  pub least_workers : 1 ≤ workers
  pub most_workers : workers ≤ max_workers

-- the order of a page: it has 4 to 512 subpages
abbrev pub is_order : ℕ → Bool
is_order order = nat_le min_order order && nat_le order max_order

-- a threshold, if there is one, is below the number of subpages of a page of this order
abbrev pub is_low : ℕ → Option ℕ → Bool
is_low order None = true
is_low order (Some threshold) = nat_lt threshold (2 ^ order)

-- each threshold is below the number of subpages of a page of the order at its index
abbrev pub AreLow : List ℕ → List (Option ℕ) → Type 0
AreLow orders thresholds = (k : ℕ) → k < length orders → k < length thresholds → is_low (slice_index orders k) (slice_index_or thresholds k None) ≡ true

-- an order for each of the nodes, each large enough for the threshold of its node
pub record AreOrdersFor (nodes : ℕ) (thresholds : List (Option ℕ)) (orders : List ℕ) : Type 0 where
  pub count : length orders ≡ nodes
  pub each : list_all is_order orders ≡ true
  pub low : AreLow orders thresholds

-- a threshold for each of the nodes or none, each low enough for the order of its node
pub record AreThresholdsFor (nodes : ℕ) (orders : List ℕ) (thresholds : List (Option ℕ)) : Type 0 where
  pub count : length thresholds ≡ nodes
  pub low : AreLow orders thresholds
