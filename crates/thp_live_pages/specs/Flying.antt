-- The block of a page in flight.
use Rattle.std.specs.Prelude.{◌≡◌, ℕ, Some}
use Rattle.thp_page.specs.declared.standing.Standing.TheVariants.{Batch}
use Rattle.thp_page.specs.Prelude.{Slot, Table, slot_at}

-- page p is in block b and in a batch of caller c
pub record IsFlyingAt (t : Table) (c p b : ℕ) : Type 0 where
  pub slot : Slot
  pub at : slot_at t b ≡ Some slot
  pub id_is : slot.id ≡ p
  pub stands : slot.standing ≡ Batch c

-- the page of block b has no pins
pub record IsUnpinnedAt (t : Table) (b : ℕ) : Type 0 where
  pub pins_of : (x : Slot) → slot_at t b ≡ Some x → x.page.pins ≡ 0
