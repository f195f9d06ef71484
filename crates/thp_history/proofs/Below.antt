-- Tests of the numbers below a bound.
use Rattle.std.proofs.Common.{◌≡◌, ◌≢◌, ℕ, suc, zero, ◌+◌, ◌<◌, ◌≤◌, Bool, true, false, not, ◌&&◌, ◌||◌, refl, ap, sym, ◌∙◌, arith, inl, inr}
use Rattle.std.specs.List.{list_any, list_all, range_with_len}
use Rattle.std.proofs.lemmas.Bool.Decides.{eqb_tells}
use Rattle.thp_history.specs.Prelude.{some_below, each_below}
use Rattle.thp_history.proofs.Bools.{or_none, by_bool}

-- tests that agree on a range of numbers
any-ext : (f g : ℕ → Bool) (a m : ℕ) → ((i : ℕ) → a ≤ i → i < a + m → f i ≡ g i) → list_any f (range_with_len a m) ≡ list_any g (range_with_len a m)
any-ext f g a zero h = refl
any-ext f g a (suc m) h =
    ap (λ b. b || list_any f (range_with_len (a + 1) m)) (h a (omega arith) (omega arith))
    ∙ ap (λ b. g a || b) (any-ext f g (a + 1) m (λ i l r. h i (omega arith) (omega arith)))

-- the same where each has to pass
all-ext : (f g : ℕ → Bool) (a m : ℕ) → ((i : ℕ) → a ≤ i → i < a + m → f i ≡ g i) → list_all f (range_with_len a m) ≡ list_all g (range_with_len a m)
all-ext f g a zero h = refl
all-ext f g a (suc m) h =
    ap (λ b. b && list_all f (range_with_len (a + 1) m)) (h a (omega arith) (omega arith))
    ∙ ap (λ b. g a && b) (all-ext f g (a + 1) m (λ i l r. h i (omega arith) (omega arith)))

-- tests that agree below n
pub some_below-ext : (n : ℕ) (f g : ℕ → Bool) → ((i : ℕ) → i < n → f i ≡ g i) → some_below n f ≡ some_below n g
unfolding some_below
some_below-ext n f g h = any-ext f g 0 n (λ i l r. h i (omega arith))

-- the same where each has to pass
pub each_below-ext : (n : ℕ) (f g : ℕ → Bool) → ((i : ℕ) → i < n → f i ≡ g i) → each_below n f ≡ each_below n g
unfolding each_below
each_below-ext n f g h = all-ext f g 0 n (λ i l r. h i (omega arith))

-- a number from a on that isn't a is from a + 1 on
above : (a i : ℕ) → a ≤ i → (i ≢ a) → a + 1 ≤ i
above a i h f = omega arith

-- one number of a range that passes
some_range : (a m i : ℕ) (f : ℕ → Bool) → a ≤ i → i < a + m → f i ≡ true → list_any f (range_with_len a m) ≡ true
some_range a zero i f h g e = absurd (omega arith)
some_range a (suc m) i f h g e =
    elim (eqb_tells i a) [
      | inl y ↦ ap (λ b. b || list_any f (range_with_len (a + 1) m)) (ap f (sym y.1) ∙ e)
      | inr y ↦ ap (λ b. f a || b) (some_range (a + 1) m i f (above a i h y.1) (omega arith) e) ∙ or_true (f a)
    ] where
      or_true : (b : Bool) → (b || true) ≡ true
      or_true true = refl
      or_true false = refl

-- one number that passes
pub some_yes : (n : ℕ) (f : ℕ → Bool) (i : ℕ) → i < n → f i ≡ true → some_below n f ≡ true
unfolding some_below
some_yes n f i h e = some_range 0 n i f (omega arith) (omega arith) e

-- no number of a range passes
none_range : (a m : ℕ) (f : ℕ → Bool) → ((i : ℕ) → a ≤ i → i < a + m → f i ≡ false) → list_any f (range_with_len a m) ≡ false
none_range a zero f h = refl
none_range a (suc m) f h =
    ap (λ b. b || list_any f (range_with_len (a + 1) m)) (h a (omega arith) (omega arith))
    ∙ none_range (a + 1) m f (λ i l r. h i (omega arith) (omega arith))

-- no number passes
pub some_no : (n : ℕ) (f : ℕ → Bool) → ((i : ℕ) → i < n → f i ≡ false) → some_below n f ≡ false
unfolding some_below
some_no n f h = none_range 0 n f (λ i l r. h i (omega arith))

-- where none of a range passes, each fails
none_below : (a m : ℕ) (f : ℕ → Bool) → list_any f (range_with_len a m) ≡ false → (i : ℕ) → a ≤ i → i < a + m → f i ≡ false
none_below a zero f e i h g = absurd (omega arith)
none_below a (suc m) f e i h g =
    let parts : (f a ≡ false) × (list_any f (range_with_len (a + 1) m) ≡ false) = or_none _ _ e in
    elim (eqb_tells i a) [
      | inl y ↦ ap f y.1 ∙ parts.0
      | inr y ↦ none_below (a + 1) m f parts.1 i (above a i h y.1) (omega arith)
    ]

-- where none passes, each fails
pub some_none : (n : ℕ) (f : ℕ → Bool) → some_below n f ≡ false → (i : ℕ) → i < n → f i ≡ false
unfolding some_below
some_none n f e i h = none_below 0 n f e i (omega arith) (omega arith)

-- what passes one test below n passes a wider one
pub some_more : (n : ℕ) (f g : ℕ → Bool) → ((i : ℕ) → i < n → f i ≡ true → g i ≡ true) → some_below n f ≡ true → some_below n g ≡ true
some_more n f g m e =
    by_bool (some_below n g) _ (λ y. y)
    (λ y.
    let none : some_below n f ≡ false =
    some_no n f (λ i b. by_bool (f i) _ (λ z. absurd (let t : g i ≡ true = m i b z in let o : g i ≡ false = some_none n g y i b in cc)) (λ z. z)) in
    absurd (cc))

-- each of a range fails where none passes
all_not : (a m : ℕ) (f : ℕ → Bool) → list_all (λ i. not (f i)) (range_with_len a m) ≡ not (list_any f (range_with_len a m))
all_not a zero f = refl
all_not a (suc m) f = ap (λ b. not (f a) && b) (all_not (a + 1) m f) ∙ go (f a) _ where
  go : (x y : Bool) → (not x && not y) ≡ not (x || y)
  go true y = refl
  go false y = refl

-- each fails where none passes
pub each-not : (n : ℕ) (f : ℕ → Bool) → each_below n (λ i. not (f i)) ≡ not (some_below n f)
unfolding each_below some_below
each-not n f = all_not 0 n f
