-- The first number below a bound that passes a test, and numbers below a bound that leave one out.
use Rattle.std.proofs.Common.{◌≡◌, ℕ, suc, zero, ◌+◌, ◌<◌, ◌≤◌, Bool, true, false, cond, not, ◌||◌, List, [], ◌∷◌, ◌++◌, length, refl, ap, sym, ◌∙◌, arith, nat_eq, eqb-true, length-append}
use Rattle.std.specs.List.{list_any, range_with_len, IsDistinct}
use Rattle.std.proofs.lemmas.List.Folds.{list_any-append}
use Rattle.std.proofs.lemmas.Map.Keys.{IsDistinct-push}
use Rattle.std.proofs.lemmas.Map.Steps.{length-le_from_distinct_below, le-length_from_below}
use Rattle.thp_history.specs.Prelude.{first_that, some_below, each_below}
use Rattle.thp_history.proofs.Below.{some_none, each_below-ext, each-not}
use Rattle.thp_history.proofs.Blocks.{eqb_laws}
use Rattle.thp_history.proofs.Bools.{by_bool, or-false}

-- the first that passes does
first_passes : (t : ℕ → Bool) (a m : ℕ) → list_any t (range_with_len a m) ≡ true → (t (first_that t (range_with_len a m)) ≡ true) × (first_that t (range_with_len a m) < a + m)
first_passes t a zero e = absurd (cc)
first_passes t a (suc m) e = go (t a) refl (first_passes t (a + 1) m) e where
  go : (b : Bool) → t a ≡ b →
      (list_any t (range_with_len (a + 1) m) ≡ true → (t (first_that t (range_with_len (a + 1) m)) ≡ true) × (first_that t (range_with_len (a + 1) m) < a + 1 + m)) →
      (b || list_any t (range_with_len (a + 1) m)) ≡ true →
      (t (cond (t a) a (first_that t (range_with_len (a + 1) m))) ≡ true) × (cond (t a) a (first_that t (range_with_len (a + 1) m)) < a + suc m)
  go true y f e = rw y (y, omega arith)
  go false y f e = let g : (t (first_that t (range_with_len (a + 1) m)) ≡ true) × (first_that t (range_with_len (a + 1) m) < a + 1 + m) = f e in rw y (g.0, omega (arith, g.1))

-- not not so
not-not : (b : Bool) → not (not b) ≡ b
not-not x = grind arith

-- each passes where none fails
each_as : (n : ℕ) (f : ℕ → Bool) → each_below n f ≡ not (some_below n (λ i. not (f i)))
each_as n f = each_below-ext n f (λ i. not (not (f i))) (λ i b. sym (not-not (f i))) ∙ each-not n (λ i. not (f i))

-- some number below n fails where not each passes
pub fails_first : (n : ℕ) (f : ℕ → Bool) → each_below n f ≡ false → (f (first_that (λ i. not (f i)) (range_with_len 0 n)) ≡ false) × (first_that (λ i. not (f i)) (range_with_len 0 n) < n)
unfolding some_below
fails_first n f e = grind (arith, each_as, first_passes)

-- where each passes, each does
pub passes_each : (n : ℕ) (f : ℕ → Bool) → each_below n f ≡ true → (i : ℕ) → i < n → f i ≡ true
passes_each n f e i b = yes _ (some_none n (λ i. not (f i)) (no _ (sym (each_as n f) ∙ e)) i b) where
  yes : (b : Bool) → not b ≡ false → b ≡ true
  yes true e = refl
  yes false e = absurd (cc)

  no : (b : Bool) → not b ≡ true → b ≡ false
  no true e = absurd (cc)
  no false e = refl

-- numbers that differ, and are below n, leave one out exactly where they are fewer
pub left_out : (ks : List ℕ) (n : ℕ) → IsDistinct nat_eq ks → ((b : ℕ) → list_any (nat_eq b) ks ≡ true → b < n) → each_below n (λ b. list_any (nat_eq b) ks) ≡ false → length ks < n
left_out ks n d r e =
    let first : ℕ = first_that (λ b. not (list_any (nat_eq b) ks)) (range_with_len 0 n) in
    let out : (list_any (nat_eq first) ks ≡ false) × (first < n) = fails_first n (λ b. list_any (nat_eq b) ks) e in
    let most : length (ks ++ first ∷ []) ≤ n = length-le_from_distinct_below (ks ++ first ∷ []) n (IsDistinct-push eqb_laws ks first d out.0) (λ q y. go first out.1 q _ refl (sym (list_any-append (nat_eq q) ks (first ∷ [])) ∙ y)) in
    omega (arith, most, length-append ks (first ∷ [])) where
      go : (first : ℕ) → first < n → (q : ℕ) (x : Bool) → list_any (nat_eq q) ks ≡ x → (list_any (nat_eq q) ks || (nat_eq q first || false)) ≡ true → q < n
      go first low q true i y = r q i
      go first low q false i y = let z : q ≡ first = eqb-true q first (sym (or-false (nat_eq q first)) ∙ sym (ap (λ v. v || (nat_eq q first || false)) i) ∙ y) in omega arith

-- as many as there are below the bound leave none out
pub fewer : (ks : List ℕ) (n : ℕ) → length ks < n → each_below n (λ b. list_any (nat_eq b) ks) ≡ false
fewer ks n l = by_bool (each_below n (λ b. list_any (nat_eq b) ks)) _ (λ e. absurd (omega (arith, le-length_from_below ks n (passes_each n (λ b. list_any (nat_eq b) ks) e)))) (λ e. e)
