-- The relation between the queue and the table of pages. No public clause cites this module.
use Rattle.std.specs.Prelude.{◌≡◌, ℕ, length, List, Option, Some, None, Contains}
use Rattle.thp_links.specs.Prelude.{Stands}
use Rattle.thp_page.specs.declared.standing.Standing.TheVariants.{Queued}
use Rattle.thp_page.specs.Prelude.{Slot, Table, slot_at}

-- a page is in the queue
abbrev pub IsQueued : Option Slot → Type 0
IsQueued None = ⊥
IsQueued (Some x) = x.standing ≡ Queued

-- index b is in the queue exactly if its content is
pub record IsListed (o : Option Slot) (q : List ℕ) (b : ℕ) : Type 0 where
  pub queued : Contains q b → IsQueued o
  pub in_queue : IsQueued o → Contains q b

-- the table's links hold the queue, with the right blocks
pub record QueueIsLinked (t : Table) (q : List ℕ) : Type 0 where
  pub sizes : length t.slots ≡ length t.links
  pub queue_stands : Stands q t.links
  pub listed : (b : ℕ) → IsListed (slot_at t b) q b
