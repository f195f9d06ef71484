-- Events that aren't about a page.
use Rattle.std.proofs.Common.{◌≡◌, ◌≢◌, ℕ, false, refl, nat_eq, ne_eqb}
use Rattle.thp_history.specs.Prelude.{What, maps, unmaps, maps_whole, unmaps_whole, pins_page, unpins_page, allocates, frees, splits, zeroes, writes, unmaps_some, is_about}
use Rattle.thp_history.specs.declared.events.What.TheVariants.{Alloc, MapWhole, UnmapWhole, MapSub, UnmapSub, SplitPmd, Pin, Unpin, Write, Zero, Split}
use Rattle.thp_history.proofs.Bools.{and_no}

-- the event leaves every count and every state of page p
pub record Untouched (p : ℕ) (w : What) : Type 0 where
  pub no_maps : (i : ℕ) → maps p i w ≡ false
  pub no_unmaps : (i : ℕ) → unmaps p i w ≡ false
  pub no_maps_whole : maps_whole p w ≡ false
  pub no_unmaps_whole : unmaps_whole p w ≡ false
  pub no_pin : pins_page p w ≡ false
  pub no_unpin : unpins_page p w ≡ false
  pub no_alloc : allocates p w ≡ false
  pub no_free : frees p w ≡ false
  pub no_split : splits p w ≡ false
  pub no_zeroes : (i : ℕ) → zeroes p i w ≡ false
  pub no_writes : (i : ℕ) → writes p i w ≡ false
  pub no_unmap : unmaps_some p w ≡ false

-- an event that names another page, or is a move from one place to another, leaves page p
pub untouched : (p : ℕ) (w : What) → is_about p w ≡ false → Untouched p w
untouched p (Alloc q block) e = record { no_maps = λ i. e; no_unmaps = λ i. refl; no_maps_whole = e; no_unmaps_whole = refl; no_pin = refl; no_unpin = refl; no_alloc = e; no_free = refl; no_split = refl; no_zeroes = λ i. e; no_writes = λ i. refl; no_unmap = refl }
untouched p (MapWhole q) e = record { no_maps = λ i. e; no_unmaps = λ i. refl; no_maps_whole = e; no_unmaps_whole = refl; no_pin = refl; no_unpin = refl; no_alloc = refl; no_free = refl; no_split = refl; no_zeroes = λ i. refl; no_writes = λ i. refl; no_unmap = refl }
untouched p (UnmapWhole outcome q set) e = record { no_maps = λ i. refl; no_unmaps = λ i. e; no_maps_whole = refl; no_unmaps_whole = e; no_pin = refl; no_unpin = refl; no_alloc = refl; no_free = and_no _ _ e; no_split = refl; no_zeroes = λ i. refl; no_writes = λ i. refl; no_unmap = e }
untouched p (MapSub q first count) e = record { no_maps = λ i. and_no _ _ e; no_unmaps = λ i. refl; no_maps_whole = refl; no_unmaps_whole = refl; no_pin = refl; no_unpin = refl; no_alloc = refl; no_free = refl; no_split = refl; no_zeroes = λ i. refl; no_writes = λ i. refl; no_unmap = refl }
untouched p (UnmapSub outcome q first count set) e = record { no_maps = λ i. refl; no_unmaps = λ i. and_no _ _ e; no_maps_whole = refl; no_unmaps_whole = refl; no_pin = refl; no_unpin = refl; no_alloc = refl; no_free = and_no _ _ e; no_split = refl; no_zeroes = λ i. refl; no_writes = λ i. refl; no_unmap = e }
untouched p (SplitPmd q) e = record { no_maps = λ i. refl; no_unmaps = λ i. refl; no_maps_whole = refl; no_unmaps_whole = e; no_pin = refl; no_unpin = refl; no_alloc = refl; no_free = refl; no_split = refl; no_zeroes = λ i. refl; no_writes = λ i. refl; no_unmap = refl }
untouched p (Pin q) e = record { no_maps = λ i. refl; no_unmaps = λ i. refl; no_maps_whole = refl; no_unmaps_whole = refl; no_pin = e; no_unpin = refl; no_alloc = refl; no_free = refl; no_split = refl; no_zeroes = λ i. refl; no_writes = λ i. refl; no_unmap = refl }
untouched p (Unpin outcome q set) e = record { no_maps = λ i. refl; no_unmaps = λ i. refl; no_maps_whole = refl; no_unmaps_whole = refl; no_pin = refl; no_unpin = e; no_alloc = refl; no_free = and_no _ _ e; no_split = refl; no_zeroes = λ i. refl; no_writes = λ i. refl; no_unmap = refl }
untouched p (Split q set) e = record { no_maps = λ i. refl; no_unmaps = λ i. refl; no_maps_whole = refl; no_unmaps_whole = refl; no_pin = refl; no_unpin = refl; no_alloc = refl; no_free = refl; no_split = e; no_zeroes = λ i. refl; no_writes = λ i. refl; no_unmap = refl }
untouched p (Write q first count) e = record { no_maps = λ i. refl; no_unmaps = λ i. refl; no_maps_whole = refl; no_unmaps_whole = refl; no_pin = refl; no_unpin = refl; no_alloc = refl; no_free = refl; no_split = refl; no_zeroes = λ i. refl; no_writes = λ i. and_no _ _ e; no_unmap = refl }
untouched p (Zero q first count) e = record { no_maps = λ i. refl; no_unmaps = λ i. refl; no_maps_whole = refl; no_unmaps_whole = refl; no_pin = refl; no_unpin = refl; no_alloc = refl; no_free = refl; no_split = refl; no_zeroes = λ i. and_no _ _ e; no_writes = λ i. refl; no_unmap = refl }
untouched p w e = record { no_maps = λ i. refl; no_unmaps = λ i. refl; no_maps_whole = refl; no_unmaps_whole = refl; no_pin = refl; no_unpin = refl; no_alloc = refl; no_free = refl; no_split = refl; no_zeroes = λ i. refl; no_writes = λ i. refl; no_unmap = refl }

-- a page other than p
pub apart : (q p : ℕ) → (q ≢ p) → nat_eq q p ≡ false
apart q p f = ne_eqb q p f
