-- The number of holders of each block. No public clause cites this module.
use Rattle.std.specs.Prelude.{◌≡◌, ℕ, ◌≤◌, ◌&&◌, nat_eq, nat_lt, List, length, slice_index}
use Rattle.std.specs.List.{range_with_len}
use Rattle.thp_history.specs.Prelude.{first_that}
use Rattle.thp_live_pages.specs.FreeSets.{FreeSet, has_block}

-- the first block without a holder, or 0
unfoldable pub least_of : List ℕ → ℕ
least_of counts = first_that (λ b. nat_eq (slice_index counts b) 0) (range_with_len 0 (length counts))

-- the set is that of the blocks without a holder
pub record AreFree (counts : List ℕ) (free : FreeSet) : Type 0 where
  pub marked : (b : ℕ) → has_block free b ≡ (nat_lt b (length counts) && nat_eq (slice_index counts b) 0)
  pub size : length counts ≤ free.blocks
