-- Nodes, passes and fronts, one at each place.
use Rattle.std.proofs.Common.{◌≡◌, ◌∙◌, ◌++◌, ◌+◌, ◌<◌, ap, ℕ, zero, suc, List, [], ◌∷◌, length, get_or, drop, map, refl, subst, arith, append_assoc, Option, Some, None, slice_get, append-nil}
use Rattle.thp_run.specs.Sharing.{Pairs}

-- what holds at each place still does with one more element, for which it holds too
pub each_more : {A : Type 0} (P : ℕ → A → Type 0) (xs : List A) (x : A) → ((n : ℕ) (y : A) → slice_get xs n ≡ Some y → P n y) → P (length xs) x → (n : ℕ) (y : A) → slice_get (xs ++ x ∷ []) n ≡ Some y → P n y
each_more P [] x each here zero y at = let is : x ≡ y = cc in subst (P 0) is here
each_more P [] x each here (suc n) y at = absurd (cc)
each_more P (z ∷ xs) x each here zero y at = each 0 y at
each_more P (z ∷ xs) x each here (suc n) y at = each_more (λ k. P (suc k)) xs x (λ k z is. each (suc k) z is) here n y at

-- ---- lists of which the elements at each place are related

module _ {A B : Type 0} (R : A → B → Type 0) where
  -- the first elements have their partners, and so do all once the rest has its own
  pub Filled : List A → List B → List A → Type 0
  Filled all done rest = (ys : List B) → Pairs R rest ys → Pairs R all (done ++ ys)

  pub filled_first : (all rest : List A) (done : List B) → done ≡ [] → rest ≡ all → Filled all done rest
  unfolding Filled
  filled_first all rest done none is = λ ys p. rw none (subst (λ l. Pairs R l ys) is p)

  pub filled_more : (all items rest : List A) (done more : List B) (x : A) (y : B) → items ≡ x ∷ rest → more ≡ done ++ y ∷ [] → R x y → Filled all done items → Filled all more rest
  unfolding Filled Pairs
  filled_more all items rest done more x y is now r f = grind (arith, append_assoc)

  pub filled_end : (all items : List A) (done : List B) → length items ≡ 0 → Filled all done items → Pairs R all done
  unfolding Filled Pairs
  filled_end all [] done none f = rw (← append-nil done) (f [] tt)
  filled_end all (x ∷ items) done none f = absurd (omega (arith, none))

  pub pairs_length : (xs : List A) (ys : List B) → Pairs R xs ys → length xs ≡ length ys
  unfolding Pairs
  pairs_length [] [] p = refl
  pairs_length [] (y ∷ ys) p = absurd p
  pairs_length (x ∷ xs) [] p = absurd p
  pairs_length (x ∷ xs) (y ∷ ys) p = ap suc (pairs_length xs ys p.1)

  -- the partner at a place
  pub pairs_at : (xs : List A) (ys : List B) (n : ℕ) (y : B) → Pairs R xs ys → slice_get ys n ≡ Some y → (x : A) × (slice_get xs n ≡ Some x) × R x y
  unfolding Pairs
  pairs_at [] [] n y p at = absurd (cc)
  pairs_at [] (z ∷ ys) n y p at = absurd p
  pairs_at (x ∷ xs) [] n y p at = absurd p
  pairs_at (x ∷ xs) (z ∷ ys) zero y p at = let is : z ≡ y = cc in (x, refl, subst (R x) is p.0)
  pairs_at (x ∷ xs) (z ∷ ys) (suc n) y p at = pairs_at xs ys n y p.1 at

  -- what two functions make of the elements and of their partners
  pub pairs_same : {C : Type 0} (f : Option A → C) (g : Option B → C) → f None ≡ g None → ((x : A) (y : B) → R x y → f (Some x) ≡ g (Some y)) → (xs : List A) (ys : List B) → Pairs R xs ys → (n : ℕ) → f (slice_get xs n) ≡ g (slice_get ys n)
  unfolding Pairs
  pairs_same f g none some [] [] p n = none
  pairs_same f g none some [] (y ∷ ys) p n = absurd p
  pairs_same f g none some (x ∷ xs) [] p n = absurd p
  pairs_same f g none some (x ∷ xs) (y ∷ ys) p zero = some x y p.0
  pairs_same f g none some (x ∷ xs) (y ∷ ys) p (suc n) = pairs_same f g none some xs ys p.1 n

  pub pairs_map : {C : Type 0} (f : A → C) (g : B → C) → ((x : A) (y : B) → R x y → f x ≡ g y) → (xs : List A) (ys : List B) → Pairs R xs ys → map f xs ≡ map g ys
  unfolding Pairs
  pairs_map f g same [] [] p = refl
  pairs_map f g same [] (y ∷ ys) p = absurd p
  pairs_map f g same (x ∷ xs) [] p = absurd p
  pairs_map f g same (x ∷ xs) (y ∷ ys) p = ap (λ c. c ∷ map f xs) (same x y p.0) ∙ ap (λ l. g y ∷ l) (pairs_map f g same xs ys p.1)

-- the element at a place, from which on these are left
pub at_drop : {A : Type 0} (xs rest : List A) (n : ℕ) (x d : A) → drop n xs ≡ x ∷ rest → (n < length xs) × (get_or xs n d ≡ x) × (drop (n + 1) xs ≡ rest)
at_drop [] rest zero x d is = absurd (cc)
at_drop [] rest (suc n) x d is = absurd (cc)
at_drop (y ∷ xs) rest zero x d is = let head : y ≡ x = cc in let tail : xs ≡ rest = cc in (omega arith, head, tail)
at_drop (y ∷ xs) rest (suc n) x d is =
    let next = at_drop xs rest n x d is in
    let e : suc n + 1 ≡ suc (n + 1) = omega arith in
    (omega (arith, next.0), next.1, rw e next.2)

pub cons_tail : {A : Type 0} (x y : A) (xs ys : List A) → x ∷ xs ≡ y ∷ ys → xs ≡ ys
cons_tail x y xs ys e = cc
