-- How a borrowed page changes its table.
use Rattle.std.specs.Prelude.{ℕ, Option}
use Rattle.std.specs.Borrow.{Lends, LendsIf, MutBor, Fml}
use Rattle.thp_history.specs.Prelude.{PageState}
use Rattle.thp_page.specs.declared.page_table.Descriptor.{Descriptor}
use Rattle.thp_page.specs.contracts.page_table.Descriptor as D
use Rattle.thp_page.specs.contracts.page_table.PageTable as T
use Rattle.thp_page.specs.contracts.page.Page as P
use Rattle.thp_page.specs.Table.{Table}
use Rattle.thp_page.specs.Slots.{slot_at, with_slot, paged}

-- the descriptor with another page
abbrev pub with_page : Descriptor → PageState → Descriptor
with_page d p = record d { page = p }

-- the descriptor finally holds the last page that was written through the loan
abbrev pub lends_own_page : MutBor Descriptor → Option (MutBor PageState) → Fml
lends_own_page d r = LendsIf D.the_row P.the_row d r (with_page d.now) d.now

-- the same for the slot of the block
abbrev pub lends_page : MutBor Table → ℕ → Option (MutBor PageState) → Fml
lends_page t b r = LendsIf T.the_row P.the_row t r (λ p. with_slot t.now b (paged (slot_at t.now b) p)) t.now

-- the same for the page of a block in use
abbrev pub lends_occupant : MutBor Table → ℕ → MutBor PageState → Fml
lends_occupant t b r = Lends T.the_row P.the_row t r (λ p. with_slot t.now b (paged (slot_at t.now b) p))
