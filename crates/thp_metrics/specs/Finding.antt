-- The number of times that pages were found pinned, by block. No public clause cites this module.
use Rattle.std.specs.Prelude.{◌≡◌, ℕ, ◌+◌, ◌<◌, ◌≤◌, ◌^◌, ⊤, List, [], ◌∷◌, ◌++◌, Option, Some, None, length, nat_lt, slice_get, set, if◌then◌else◌}
use Rattle.thp_history.specs.declared.events.What.{What}
use Rattle.thp_history.specs.declared.events.What.TheVariants.{Alloc, Pinned}
use Rattle.thp_history.specs.declared.shape.Shape.{Shape}
use Rattle.thp_history.specs.Prelude.{allocations, History}
use Rattle.thp_live_pages.specs.Prelude.{block_of}
use Rattle.thp_metrics.specs.declared.waiting.PinCount.{PinCount}
use Rattle.thp_metrics.specs.declared.waiting.StuckPage.{StuckPage}
use Rattle.thp_metrics.specs.Arrivals.{Arrived, since_of}
use Rattle.thp_metrics.specs.Stuck.{finds}

abbrev pub one_more_pin : PinCount → PinCount
one_more_pin f = record f { finds = f.finds + 1 }

abbrev pub with_pin_count : List PinCount → ℕ → Option PinCount → List PinCount
with_pin_count found b None = found
with_pin_count found b (Some f) = set found b (one_more_pin f)

-- the counts after one more event, whose page waits in this block, if it waits
abbrev pub noted : List PinCount → What → Option ℕ → List PinCount
noted found (Alloc p b) home = set found b (record { page = p; finds = 0 })
noted found (Pinned p) (Some b) = with_pin_count found b (slice_get found b)
noted found _ home = found

-- there is room for it
abbrev pub PinHasRoom : Option PinCount → Type 0
PinHasRoom None = ⊥
PinHasRoom (Some f) = f.finds + 1 < 2 ^ 64

abbrev pub MayNote : List PinCount → What → Option ℕ → Type 0
MayNote found (Alloc p b) home = b < length found
MayNote found (Pinned p) (Some b) = PinHasRoom (slice_get found b)
MayNote found _ home = ⊤

-- each live page is recorded, with its count, by its block
pub record KeepsFinds (s : Shape) (h : History) (found : List PinCount) : Type 0 where
  pub size : length found ≡ s.blocks
  pub each : (p b : ℕ) → block_of h p ≡ Some b → slice_get found b ≡ Some (record { page = p; finds = finds h p })
  pub never : (p : ℕ) → allocations h ≤ p → finds h p ≡ 0

-- the record of a page of block b, if it was found pinned
abbrev pub stuck_by : Option PinCount → ℕ → List StuckPage
stuck_by None since = []
stuck_by (Some f) since = if nat_lt 0 f.finds then record { page = f.page; finds = f.finds; since = since } ∷ [] else []

-- the pages of these blocks that were found pinned, in the same order
abbrev pub stuck_among : List PinCount → Arrived → List ℕ → List StuckPage
stuck_among found a [] = []
stuck_among found a (b ∷ bs) = stuck_by (slice_get found b) (since_of a b) ++ stuck_among found a bs
