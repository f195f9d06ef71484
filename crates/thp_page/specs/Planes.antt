-- The own map counts of a page as bit planes: plane k is the set of the subpages whose count has the bit 2 ^ k.
use Rattle.std.specs.Prelude.{ℕ, ◌^◌, Bool, cond, List, [], map, slice_index_or}
use Rattle.std.specs.List.{range_with_len}
use Rattle.thp_history.specs.Prelude.{max_subpages, has, sum_below}

-- the set of plane k
abbrev pub plane : List (List Bool) → ℕ → List Bool
plane planes k = slice_index_or planes k []

-- the count of subpage i according to the first n planes: the sum of the 2 ^ k whose plane contains it
unfoldable pub count_in : List (List Bool) → ℕ → ℕ → ℕ
count_in planes n i = sum_below n (λ k. cond (has (plane planes k) i) (2 ^ k) 0)

-- the counts of all subpages
unfoldable pub counts_in : List (List Bool) → ℕ → List ℕ
counts_in planes n = map (count_in planes n) (range_with_len 0 max_subpages)
