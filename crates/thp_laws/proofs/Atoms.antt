-- What two histories that are the same but for blocks say alike, each definition by itself.
use Rattle.std.proofs.Common.{◌≡◌, ℕ, refl}
use Rattle.thp_history.specs.declared.events.What.TheVariants.{Alloc}
use Rattle.thp_history.specs.Prelude.{SameButBlocks, allocates, closes, frees, maps, maps_whole, pins_page, splits, unmaps, unmaps_whole, unpins_page, History, count_of, some_event}
use Rattle.thp_history.proofs.Alike.{allocates_blind, count_alike, frees_blind, maps_blind, pin_blind, some_alike, splits_blind, unmaps_blind, unpin_blind, Blind}

-- mappings of whole pages have no block
whole_blind : (p : ℕ) → Blind (maps_whole p)
whole_blind p (Alloc q b) = refl
whole_blind p w = refl

-- nor have unmaps of them
unmapped_blind : (p : ℕ) → Blind (unmaps_whole p)
unmapped_blind p (Alloc q b) = refl
unmapped_blind p w = refl

-- nor has a close
close_blind : Blind closes
close_blind (Alloc q b) = refl
close_blind w = refl

-- the counts and tests of which the definitions are made
module _ (h k : History) (e : SameButBlocks h k) where
  pub same_maps : (p i : ℕ) → count_of (maps p i) h ≡ count_of (maps p i) k
  same_maps p i = count_alike (maps p i) (maps_blind p i) h k e

  pub same_unmaps : (p i : ℕ) → count_of (unmaps p i) h ≡ count_of (unmaps p i) k
  same_unmaps p i = count_alike (unmaps p i) (unmaps_blind p i) h k e

  pub same_whole : (p : ℕ) → count_of (maps_whole p) h ≡ count_of (maps_whole p) k
  same_whole p = count_alike (maps_whole p) (whole_blind p) h k e

  pub same_unmapped : (p : ℕ) → count_of (unmaps_whole p) h ≡ count_of (unmaps_whole p) k
  same_unmapped p = count_alike (unmaps_whole p) (unmapped_blind p) h k e

  pub same_pins : (p : ℕ) → count_of (pins_page p) h ≡ count_of (pins_page p) k
  same_pins p = count_alike (pins_page p) (pin_blind p) h k e

  pub same_unpins : (p : ℕ) → count_of (unpins_page p) h ≡ count_of (unpins_page p) k
  same_unpins p = count_alike (unpins_page p) (unpin_blind p) h k e

  pub same_allocated : (p : ℕ) → some_event (allocates p) h ≡ some_event (allocates p) k
  same_allocated p = some_alike (allocates p) (allocates_blind p) h k e

  pub same_freed : (p : ℕ) → some_event (frees p) h ≡ some_event (frees p) k
  same_freed p = some_alike (frees p) (frees_blind p) h k e

  pub same_split : (p : ℕ) → some_event (splits p) h ≡ some_event (splits p) k
  same_split p = some_alike (splits p) (splits_blind p) h k e

  pub same_closed : some_event closes h ≡ some_event closes k
  same_closed = some_alike closes close_blind h k e
