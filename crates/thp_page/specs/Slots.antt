-- The slot of a table at a block, and the table after a call changes it.
use Rattle.std.specs.Prelude.{◌≡◌, ℕ, Option, Some, None, slice_index_or, slice_set}
use Rattle.thp_history.specs.Prelude.{PageState}
use Rattle.thp_page.specs.declared.standing.Standing.{Standing}
use Rattle.thp_page.specs.declared.standing.Standing.TheVariants.{Nowhere}
use Rattle.thp_page.specs.Fresh.{fresh_page}
use Rattle.thp_page.specs.Table.{Slot, Table}

-- the content of block b; none if it is empty
abbrev pub slot_at : Table → ℕ → Option Slot
slot_at t b = slice_index_or t.slots b None

-- the table with this in block b, and otherwise unchanged
abbrev pub with_slot : Table → ℕ → Option Slot → Table
with_slot t b o = record t { slots = slice_set t.slots b o }

-- the slot of a page that was just placed
abbrev pub fresh_slot : ℕ → ℕ → Slot
fresh_slot order id = record { id = id; page = fresh_page order; standing = Nowhere }

-- the number in a slot, and the page
abbrev pub number_in : Option Slot → Option ℕ
number_in None = None
number_in (Some s) = Some s.id

abbrev pub page_in : Option Slot → Option PageState
page_in None = None
page_in (Some s) = Some s.page

-- the slot with another page of the same number
abbrev pub paged : Option Slot → PageState → Option Slot
paged None p = None
paged (Some s) p = Some (record s { page = p })

-- the slot with its page on another list
abbrev pub stood : Option Slot → Standing → Option Slot
stood None w = None
stood (Some s) w = Some (record s { standing = w })

-- the slot holds the page of this number
abbrev pub HoldsPage : Option Slot → ℕ → Type 0
HoldsPage None id = ⊥
HoldsPage (Some s) id = s.id ≡ id
