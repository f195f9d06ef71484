-- When the links of a table hold a list of indices.
use Rattle.std.specs.Prelude.{ℕ, ◌≡◌, List, [], ◌∷◌, length, slice_get, slice_index_or, Some, Contains}
use Rattle.thp_links.specs.declared.link.Link.{Link}
use Rattle.thp_links.specs.declared.link.TheConstants.{NIL}
use Rattle.thp_links.specs.Indices.{Distinct}

-- the pair of an index between these two
abbrev pub between : ℕ → ℕ → Link
between p n = record { prev = p; next = n }

-- the pairs link the list in both directions, with p before its first index and n after its last
abbrev pub Segment : List Link → ℕ → List ℕ → ℕ → Type 0
Segment ls p [] n = Unit {0}
Segment ls p (x ∷ xs) n =
    (slice_get ls x ≡ Some (between p (slice_index_or xs 0 n))) × Segment ls x xs n

-- the `next` words link the list, with `NIL` at its end
abbrev pub Trail : List Link → List ℕ → Type 0
Trail ls [] = Unit {0}
Trail ls (x ∷ xs) =
    ((p : ℕ) × (slice_get ls x ≡ Some (between p (slice_index_or xs 0 NIL)))) × Trail ls xs

-- the links hold a queue's list: no index occurs twice, and the list is linked in both directions
pub record Stands (xs : List ℕ) (ls : List Link) : Type 0 where
  pub segment : Segment ls NIL xs NIL
  pub distinct : Distinct xs

-- the links hold a chain's list: no index occurs twice, and the list is linked by the `next` words
pub record ChainStands (xs : List ℕ) (ls : List Link) : Type 0 where
  pub trail : Trail ls xs
  pub distinct : Distinct xs

-- the pairs of indices that are not in the list are unchanged
pub record SameOutside (xs : List ℕ) (old new : List Link) : Type 0 where
  pub same_length : length new ≡ length old
  pub same_pairs : (j : ℕ) → (Contains xs j → ⊥) → slice_get new j ≡ slice_get old j
