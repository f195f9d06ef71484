-- Lists of indices: without repetition, without common elements, and with one index removed.
use Rattle.std.specs.Prelude.{ℕ, ◌≢◌, ◌==◌, not, List, [], ◌∷◌, Contains, AllPairs, filter}

-- no index occurs twice
abbrev pub Distinct : List ℕ → Type 0
Distinct xs = AllPairs (λ x y. x ≢ y) xs

-- no index is in both lists
pub record Apart (xs ys : List ℕ) : Type 0 where
  pub never_both : (i : ℕ) → Contains xs i → Contains ys i → ⊥

-- the list without index i
abbrev pub without_index : ℕ → List ℕ → List ℕ
without_index i xs = filter (λ j. not (j == i)) xs

-- the last index, or p if there is none
abbrev pub last_or : ℕ → List ℕ → ℕ
last_or p [] = p
last_or p (x ∷ xs) = last_or x xs
