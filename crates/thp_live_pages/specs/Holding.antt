-- What a node's table and queue represent of its history.
use Rattle.std.specs.Prelude.{◌≡◌, ℕ, length, map, List, Option, Some, None}
use Rattle.thp_history.specs.declared.shape.Shape.{Shape}
use Rattle.thp_history.specs.Prelude.{History, IsLegal, Tallies, queue}
use Rattle.thp_page.specs.Prelude.{Slot, Table, slot_at, HoldsPage}
use Rattle.thp_live_pages.specs.Homes.{block_of, standing_of}

-- the content of block b is the state that the history gives its page
pub record IsSlot (s : Shape) (h : History) (b : ℕ) (x : Slot) : Type 0 where
  pub home : block_of h x.id ≡ Some b
  pub tallies : Tallies s h x.id x.page
  pub stands : x.standing ≡ standing_of s h x.id

-- block b has the right content: its page, or nothing if it has none
abbrev pub Fills : Shape → History → ℕ → Option Slot → Type 0
Fills s h b None = (p : ℕ) → block_of h p ≡ Some b → ⊥
Fills s h b (Some x) = IsSlot s h b x

-- page p is in some block
abbrev pub HasBlock : Table → ℕ → Type 0
HasBlock t p = (b : ℕ) × HoldsPage (slot_at t b) p

-- the history is legal, the table's slots are the live pages, and the queue's indices are the blocks of the queued pages
-- in order
pub record IsNode (s : Shape) (h : History) (t : Table) (q : List ℕ) : Type 0 where
  pub legal : IsLegal s h
  pub size : length t.slots ≡ s.blocks
  pub order : t.order ≡ s.order
  pub fills : (b : ℕ) → Fills s h b (slot_at t b)
  pub queue_is : map (block_of h) (queue s h) ≡ map (λ b. Some b) q
