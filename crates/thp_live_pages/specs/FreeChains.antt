-- Chains of blocks without a page, which share the links of a table with its queue.
use Rattle.std.specs.Prelude.{◌≡◌, ℕ, ◌+◌, ◌≤◌, List, None, Contains}
use Rattle.thp_links.specs.Prelude.{ChainStands}
use Rattle.thp_page.specs.Prelude.{Table, slot_at}
use Rattle.thp_live_pages.specs.PageStoreState.{PageStoreState}

-- the table's links hold the list as a chain, and no block of it has a page
pub record IsFreeChain (t : Table) (f : List ℕ) : Type 0 where
  pub stands : ChainStands f t.links
  pub empty : (b : ℕ) → Contains f b → slot_at t b ≡ None

-- nothing but links changes, with at most this many accesses
pub record Relinks (old new : PageStoreState) (most : ℕ) : Type 0 where
  pub slots : new.table.slots ≡ old.table.slots
  pub order : new.table.order ≡ old.table.order
  pub queue_is : new.queue ≡ old.queue
  pub work : new.table.accesses ≤ old.table.accesses + most
