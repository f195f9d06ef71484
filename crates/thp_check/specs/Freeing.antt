-- The blocks that are free after an event. No public clause cites this module.
use Rattle.std.specs.Prelude.{◌≡◌, ℕ, ◌≤◌, Bool, true, false, not, ◌&&◌, nat_eq, nat_lt, cond, Option, Some, None}
use Rattle.thp_history.specs.declared.events.What.{What}
use Rattle.thp_history.specs.declared.events.What.TheVariants.{Alloc}
use Rattle.thp_history.specs.declared.shape.Shape.{Shape}
use Rattle.thp_history.specs.Prelude.{frees, block_in_use, History}
use Rattle.thp_live_pages.specs.Prelude.{FreeSet, block_of, has_block}

-- the set is that of the node's blocks without a live page
pub record MarksFree (s : Shape) (h : History) (free : FreeSet) : Type 0 where
  pub marked : (b : ℕ) → has_block free b ≡ (nat_lt b s.blocks && not (block_in_use h b))
  pub size : s.blocks ≤ free.blocks

-- the block that becomes free by an event: that of the page that is freed, if it has one
abbrev pub IsFreed : History → What → Option ℕ → Type 0
IsFreed h w (Some b) = (p : ℕ) × (frees p w ≡ true) × (block_of h p ≡ Some b)
IsFreed h w None = (p : ℕ) → frees p w ≡ true → block_of h p ≡ None

-- the block that gets a page by an event, if that is an allocation
abbrev pub taken_block : What → Option ℕ
taken_block (Alloc p c) = Some c
taken_block w = None

-- whether block b is free after the first block was taken, or the second one became free
abbrev pub free_after : Option ℕ → Option ℕ → ℕ → Bool → Bool
free_after (Some c) freed b was = cond (nat_eq b c) false was
free_after None (Some c) b was = cond (nat_eq b c) true was
free_after None None b was = was
