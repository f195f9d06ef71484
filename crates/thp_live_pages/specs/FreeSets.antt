-- Sets of a node's free blocks.
use Rattle.std.specs.Prelude.{◌≡◌, ℕ, ◌<◌, ◌≤◌, ◌*◌, ◌^◌, Bool, true, false, cond, not, nat_eq, nat_lt, List, length, slice_index_or}
use Rattle.thp_history.specs.Prelude.{in_words}

-- a set of the blocks below a number: of those used before, the ones in the words, and all others
pub record FreeSet : Type 0 where
  pub blocks : ℕ
  pub used : ℕ
  pub freed : List ℕ

-- block b is in the set
unfoldable pub has_block : FreeSet → ℕ → Bool
has_block f b = cond (nat_lt b f.used) (in_words f.freed b) (nat_lt b f.blocks)

-- the words have bits for all blocks, but only blocks used before are in them
pub record IsFreedBelow (f : FreeSet) : Type 0 where
  pub within : f.used ≤ f.blocks
  pub enough : f.blocks ≤ 64 * length f.freed
  pub below : (b : ℕ) → in_words f.freed b ≡ true → b < f.used

-- the summary is the set of the words that are not 0
pub record Sums (words : List ℕ) (summary : ℕ → Bool) (room : ℕ) : Type 0 where
  pub few : length words ≤ 2 ^ 26
  pub enough : length words ≤ room
  pub sums : (i : ℕ) → summary i ≡ not (nat_eq (slice_index_or words i 0) 0)
