-- What a queue holds after blocks were pushed.
use Rattle.std.proofs.Common.{◌≡◌, ◌≢◌, ℕ, ◌+◌, ◌<◌, List, [], ◌∷◌, ◌++◌, Contains, subst, sym, inl, inr, arith}
use Rattle.std.proofs.lemmas.Bool.{cases_eq}
use Rattle.std.proofs.lemmas.List.Elements.{Contains-append_left, Contains-push, Contains-push_cases}
use Rattle.thp_links.specs.Prelude.{without_index}
use Rattle.thp_links.proofs.Members.{Contains-without}

-- after a push of n to blocks below n all are below n + 1
pub below_more : (n : ℕ) (xs ys : List ℕ) → ys ≡ xs ++ n ∷ [] → ((j : ℕ) → Contains xs j → j < n) → (j : ℕ) → Contains ys j → j < n + 1
below_more n xs ys is below j m = elim (Contains-push_cases xs n j (subst (λ (zs : List ℕ). Contains zs j) is m)) [
  | inl k ↦ let less : j < n = below j k in omega arith
  | inr e ↦ let same : n ≡ j = e in omega arith
]

-- a block that is pushed or was there is there
pub there : (n : ℕ) (xs ys : List ℕ) (j : ℕ) → ys ≡ xs ++ n ∷ [] → (j ≢ n → Contains xs j) → Contains ys j
there n xs ys j is other = subst (λ (zs : List ℕ). Contains zs j) (sym is) (elim (cases_eq j n) [
  | inl e ↦ subst (λ (k : ℕ). Contains (xs ++ n ∷ []) k) (sym e) (Contains-push xs n)
  | inr ne ↦ Contains-append_left xs (n ∷ []) j (other ne)
])

-- after a push of n to all blocks below n all below n + 1 are there
pub all_more : (n : ℕ) (xs ys : List ℕ) → ys ≡ xs ++ n ∷ [] → ((j : ℕ) → j < n → Contains xs j) → (j : ℕ) → j < n + 1 → Contains ys j
all_more n xs ys is all j less = there n xs ys j is (λ ne. all j (omega (arith, ne)))

-- a block that is taken out and pushed leaves the same blocks there
pub all_again : (n i : ℕ) (xs ys zs : List ℕ) → ys ≡ without_index i xs → zs ≡ ys ++ i ∷ [] → ((j : ℕ) → j < n → Contains xs j) → (j : ℕ) → j < n → Contains zs j
all_again n i xs ys zs out back all j less =
    there i ys zs j back (λ ne. subst (λ (ws : List ℕ). Contains ws j) (sym out) (Contains-without i xs j (all j less) ne))
