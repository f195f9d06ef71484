-- The last allocation of a page. No public clause cites this module.
use Rattle.std.specs.Prelude.{ℕ, slice_get, Option, Some, None}
use Rattle.std.specs.Ordering.{nat_cmp}
use Rattle.std.specs.BTreeMap.{get}
use Rattle.thp_journal_reader.specs.declared.page_blocks.LastAllocations.{LastAllocations}

-- the first entry that exists, or that the page holds no block
abbrev pub first_entry : Option (Option ℕ) → Option (Option ℕ) → Option ℕ
first_entry (Some last) other = last
first_entry None (Some last) = last
first_entry None None = None

-- the index of the last allocation of page p since it was last freed, if there is one
unfoldable pub last_allocation : LastAllocations → ℕ → Option ℕ
last_allocation pages p = first_entry (slice_get pages.dense.items p) (get nat_cmp pages.others p)
