-- How the view of a table is computed from its fields.
use Rattle.thp_history.specs.Prelude.{max_order, min_order}
use Rattle.std.specs.Prelude.{◌≡◌, ◌<◌, ◌≤◌, ℕ, ◌^◌, List, [], ◌∷◌, map, length, slice_index_or, Option, Some, None, IsSome}
use Rattle.thp_links.specs.declared.link.Link.{Link}
use Rattle.thp_links.specs.declared.link.TheConstants.{NIL}
use Rattle.thp_page.specs.declared.page_table.Descriptor.{Descriptor}
use Rattle.thp_page.specs.declared.standing.Standing.TheVariants.{Nowhere}
use Rattle.thp_page.specs.Fresh.{fresh_page}
use Rattle.thp_page.specs.Padding.{padded}
use Rattle.thp_page.specs.Table.{Slot}

-- the link pair of each block
abbrev pub links_of : List Descriptor → List Link
links_of ds = map (λ d. d.link) ds

-- a block is in use if it has a number; the descriptor of an empty block keeps its last content
abbrev pub slot_of : Option ℕ → Descriptor → Option Slot
slot_of None d = None
slot_of (Some n) d = Some (record { id = n; page = d.page; standing = d.standing })

-- the slot of each block
abbrev pub slots_of : List (Option ℕ) → List Descriptor → List (Option Slot)
slots_of (n ∷ ns) (d ∷ ds) = slot_of n d ∷ slots_of ns ds
slots_of _ _ = []

-- the descriptor of a block that was never used
abbrev pub blank_descriptor : ℕ → Descriptor
blank_descriptor order = record { link = record { prev = NIL; next = NIL }; page = fresh_page order; standing = Nowhere }

-- the descriptor of each block: those that are stored, and blank ones from there on
abbrev pub descriptors_of : (order blocks : ℕ) → List Descriptor → List Descriptor
descriptors_of order blocks ds = padded blocks (blank_descriptor order) ds

-- each block has a number or none, each block with a number has a descriptor, and there is room for all descriptors
pub record IsSized (order blocks capacity : ℕ) (numbers : List (Option ℕ)) (descriptors : List Descriptor) : Type 0 where
  pub least_order : min_order ≤ order
  pub most_order : order ≤ max_order
  pub small : blocks < 2 ^ 32
  pub few : length descriptors ≤ blocks
  pub room : blocks ≤ capacity
  pub numbered : length numbers ≡ blocks
  pub stored : (b : ℕ) → IsSome (slice_index_or numbers b None) → b < length descriptors
