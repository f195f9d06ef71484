-- The data of a table of pages that a replay shows. No public clause cites this module.
use Rattle.std.specs.Prelude.{ℕ, Bool, Option, Some, None, is_some}
use Rattle.thp_page.specs.Prelude.{slot_at, Slot, Table}

-- block b has a page
abbrev pub is_taken : Table → ℕ → Bool
is_taken t b = is_some (slot_at t b)

-- the number of the page in block b; arbitrary if there is none
abbrev pub number_or_0 : Option Slot → ℕ
number_or_0 None = 0
number_or_0 (Some x) = x.id

abbrev pub page_at : Table → ℕ → ℕ
page_at t b = number_or_0 (slot_at t b)
