-- The chain of a node's freed blocks, and the calls that change it. No public clause cites this module.
use Rattle.std.specs.Prelude.{◌≡◌, ℕ, ◌<◌, ◌≤◌, length, Bool, List, Option, None, Contains}
use Rattle.thp_page.specs.Prelude.{Slot, Table, slot_at}
use Rattle.thp_history.specs.declared.page_call.Done.{Done}
use Rattle.thp_history.specs.declared.page_call.Loss.{Loss}
use Rattle.thp_live_pages.specs.Prelude.{IsFreeChain, Relinks, PageStoreState, Lost, IsPlaced}

-- of the table's `count` blocks, those from `used` on have no page; of those below, the chain contains exactly the ones without
pub record HasChain (t : Table) (used count : ℕ) (f : List ℕ) : Type 0 where
  pub chain : IsFreeChain t f
  pub size : count ≡ length t.slots
  pub within : used ≤ count
  pub inside : (b : ℕ) → Contains f b → b < used
  pub all : (b : ℕ) → b < used → slot_at t b ≡ None → Contains f b
  pub later : (b : ℕ) → used ≤ b → slot_at t b ≡ None

-- the effect of a loss on the page of block b; afterwards the block is in the chain if it has no page
pub record LostChained (loss : Loss) (closed : Bool) (x : Slot) (old new : PageStoreState) (b : ℕ) (done : Done) (left : Option ℕ) : Type 0 where
  pub between : PageStoreState
  pub lost : Lost loss closed x old between b done left
  pub relinks : Relinks between new 2

-- block b, which had no page, leaves the chain if it was there, and a new page is placed in it, which is queued or not
pub record StoresFresh (old new : PageStoreState) (b p : ℕ) (queued : Bool) : Type 0 where
  pub between : PageStoreState
  pub relinks : Relinks old between 2
  pub placed : IsPlaced p queued between new b
