-- The relation between the fields of a queue or a chain and its list. No public clause cites this module.
use Rattle.std.specs.Prelude.{ℕ, ◌≡◌, List, length, slice_index_or, Contains}
use Rattle.thp_links.specs.declared.link.TheConstants.{NIL}
use Rattle.thp_links.specs.Indices.{last_or}

-- a queue's fields are the first index, the last one and the length
pub record HasEnds (head tail len : ℕ) (xs : List ℕ) : Type 0 where
  pub first : head ≡ slice_index_or xs 0 NIL
  pub last : tail ≡ last_or NIL xs
  pub count : len ≡ length xs

-- a chain's field is the first index, or `NIL` if there is none
pub record HasHead (head : ℕ) (xs : List ℕ) : Type 0 where
  pub first : head ≡ slice_index_or xs 0 NIL
  pub real : Contains xs NIL → ⊥
