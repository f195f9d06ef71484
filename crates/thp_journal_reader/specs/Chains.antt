-- The chain of a page's allocations. No public clause cites this module.
use Rattle.std.specs.Prelude.{◌≡◌, ℕ, ◌<◌, ◌≤◌, ◌+◌, nat_eq, count_by, List, [], ◌∷◌, length, slice_get, slice_index, Option, Some, None}
use Rattle.thp_journal_reader.specs.declared.page_blocks.Allocation.{Allocation}

-- the chain continues at an index below the limit, with an allocation of block b
pub record IsLink (allocs : List Allocation) (limit : ℕ) (at : Option ℕ) (b : ℕ) : Type 0 where
  pub place : ℕ
  pub one : Allocation
  pub at_place : at ≡ Some place
  pub below : place < limit
  pub there : slice_get allocs place ≡ Some one
  pub of_block : one.block ≡ b

-- the blocks of the chain from there on, newest first; each allocation is at a lower index than the one that links to it
abbrev pub IsAllocationChain : List Allocation → ℕ → Option ℕ → List ℕ → Type 0
IsAllocationChain allocs limit at [] = at ≡ None
IsAllocationChain allocs limit at (b ∷ bs) = (l : IsLink allocs limit at b) × IsAllocationChain allocs l.place l.one.before bs

-- a chain each of whose blocks has at least as many holders as it has occurrences
pub record IsCovered (allocs : List Allocation) (at : Option ℕ) (counts : List ℕ) : Type 0 where
  pub blocks : List ℕ
  pub chained : IsAllocationChain allocs (length allocs) at blocks
  pub covered : (b : ℕ) → count_by (nat_eq b) blocks ≤ slice_index counts b

-- the chain was walked from its beginning `first`, and the blocks passed were released
pub record IsWalked (allocs : List Allocation) (first at : Option ℕ) (old now : List ℕ) : Type 0 where
  pub all : List ℕ
  pub rest : List ℕ
  pub limit : ℕ
  pub chained : IsAllocationChain allocs (length allocs) first all
  pub goes_on : IsAllocationChain allocs limit at rest
  pub covered : (b : ℕ) → count_by (nat_eq b) all ≤ slice_index old b
  pub given : (b : ℕ) → slice_index now b + count_by (nat_eq b) all ≡ slice_index old b + count_by (nat_eq b) rest
  pub size : length now ≡ length old

-- one more than the index where the chain continues, or 0: it decreases along the chain
abbrev pub chain_place : Option ℕ → ℕ
chain_place None = 0
chain_place (Some place) = place + 1
