-- The data about the events so far. No public clause cites this module.
use Rattle.std.specs.Prelude.{◌≡◌, ℕ, ◌+◌, ◌≤◌, Bool, not, ◌&&◌, nat_eq, cond, List, [], ◌∷◌, ◌++◌, length, slice_index, Option}
use Rattle.thp_history.specs.declared.events.Event.{Event}
use Rattle.thp_history.specs.declared.events.What.{What}
use Rattle.thp_history.specs.declared.events.What.TheVariants.{Alloc}
use Rattle.thp_history.specs.declared.shape.Shape.{Shape}
use Rattle.thp_history.specs.Prelude.{frees, keeps_block, History, some_event}
use Rattle.thp_journal_reader.specs.declared.page_blocks.Allocation.{Allocation}
use Rattle.thp_journal_reader.specs.Chains.{IsAllocationChain}

-- the number of holders of block b: the allocations there whose page no later event frees
unfoldable pub times_held : History → ℕ → ℕ
times_held [] b = 0
times_held (e ∷ h) b = cond (keeps_block b e.what h) 1 0 + times_held h b

-- the block of the event, if it allocates page p and no later event frees the page
abbrev pub kept_block : ℕ → What → History → List ℕ
kept_block p (Alloc q b) later = cond (nat_eq p q && not (some_event (frees p) later)) (b ∷ []) []
kept_block p w later = []

-- the blocks that page p holds, newest first
unfoldable pub blocks_of : History → ℕ → List ℕ
blocks_of [] p = []
blocks_of (e ∷ h) p = blocks_of h p ++ kept_block p e.what h

-- the numbers by block, the last allocations of the pages and the linked allocations agree with the history
pub record KeepsBlocks (s : Shape) (h : History) (counts : List ℕ) (last : ℕ → Option ℕ) (allocs : List Allocation) : Type 0 where
  pub blocks : length counts ≡ s.blocks
  pub some : 1 ≤ s.blocks
  pub held : (b : ℕ) → slice_index counts b ≡ times_held h b
  pub few : (b : ℕ) → slice_index counts b ≤ length allocs
  pub pages : (p : ℕ) → IsAllocationChain allocs (length allocs) (last p) (blocks_of h p)
