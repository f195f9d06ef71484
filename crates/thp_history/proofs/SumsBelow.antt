-- Sums below a number.
use Rattle.std.proofs.Common.{◌≡◌, ◌≢◌, ℕ, suc, zero, ◌+◌, ◌*◌, ◌<◌, ◌≤◌, Bool, cond, map, refl, ap, sym, ◌∙◌, subst, arith, inl, inr}
use Rattle.std.specs.List.{range_with_len}
use Rattle.std.proofs.lemmas.Bool.Decides.{eqb_tells}
use Rattle.std.proofs.lemmas.List.FromFn.{map-range_with_len_more}
use Rattle.thp_history.specs.Prelude.{set_of, set_size, sum_below, count_below}
use Rattle.thp_history.proofs.Counting.{count_push}

-- functions that agree below m
pub sum_below-ext : (m : ℕ) (f g : ℕ → ℕ) → ((i : ℕ) → i < m → f i ≡ g i) → sum_below m f ≡ sum_below m g
unfolding sum_below
sum_below-ext zero f g h = refl
sum_below-ext (suc m) f g h = omega (arith, sum_below-ext m f g (λ i below. h i (omega arith)), h m (omega arith))

-- the sum of a sum
pub sum_below-add : (m : ℕ) (f g : ℕ → ℕ) → sum_below m (λ i. f i + g i) ≡ sum_below m f + sum_below m g
unfolding sum_below
sum_below-add zero f g = refl
sum_below-add (suc m) f g = omega (arith, sum_below-add m f g)

-- two sums that differ at p alone
pub sum_below-one : (m : ℕ) (f g : ℕ → ℕ) (p d : ℕ) → p < m → ((i : ℕ) → i < m → (i ≢ p) → f i ≡ g i) → f p ≡ g p + d → sum_below m f ≡ sum_below m g + d
unfolding sum_below
sum_below-one zero f g p d h s e = absurd (omega arith)
sum_below-one (suc m) f g p d h s e =
    elim (eqb_tells m p) [
      | inl y ↦
          let at : f m ≡ g m + d = let P : ℕ → Type 0 = λ x. f x ≡ g x + d in subst P (sym y.1) e in
          omega (arith, at, sum_below-ext m f g (λ i below. s i (omega arith) (λ z. let w : m ≡ p = y.1 in omega arith)))
      | inr y ↦
          let lower : p < m = go m p h y.1 in
          omega (arith, s m (omega arith) y.1, sum_below-one m f g p d lower (λ i below. s i (omega arith)) e)
    ] where
      go : (m p : ℕ) → p < suc m → (m ≢ p) → p < m
      go m p h f = omega arith

-- the same number m times
pub sum_below-const : (m c : ℕ) → sum_below m (λ i. c) ≡ c * m
unfolding sum_below
sum_below-const zero c = grind arith
sum_below-const (suc m) c = grind (arith, sum_below-const m c)

-- one more number
pub sum_below_suc : (m : ℕ) (f : ℕ → ℕ) → sum_below (suc m) f ≡ sum_below m f + f m
unfolding sum_below
sum_below_suc m f = refl

-- nothing from n on
pub sum_below-stop : (d n : ℕ) (f : ℕ → ℕ) → ((i : ℕ) → n ≤ i → f i ≡ 0) → sum_below (d + n) f ≡ sum_below n f
sum_below-stop zero n f h = ap (λ m. sum_below m f) (go n) where
  go : (n : ℕ) → 0 + n ≡ n
  go n = omega arith
sum_below-stop (suc d) n f h = ap (λ m. sum_below m f) (go d n) ∙ sum_below_suc (d + n) f ∙ ap (λ x. sum_below (d + n) f + x) (h (d + n) (omega arith)) ∙ zero_more (sum_below (d + n) f) ∙ sum_below-stop d n f h where
  go : (d n : ℕ) → suc d + n ≡ suc (d + n)
  go d n = omega arith

  zero_more : (m : ℕ) → m + 0 ≡ m
  zero_more m = omega arith

-- the size of a set
set_size_range : (m : ℕ) (test : ℕ → Bool) → set_size (map test (range_with_len 0 m)) ≡ count_below m test
unfolding sum_below
set_size_range zero test = refl
set_size_range (suc m) test = ap set_size (ap (λ k. map test (range_with_len 0 k)) (go m) ∙ map-range_with_len_more test 0 m m (omega arith)) ∙ count_push (λ b. b) (map test (range_with_len 0 m)) (test m) ∙ ap (λ x. x + cond (test m) 1 0) (set_size_range m test) where
  go : (m : ℕ) → suc m ≡ m + 1
  go m = omega arith

-- the size of a set is how many numbers pass its test
pub set_size-set_of : (test : ℕ → Bool) → set_size (set_of test) ≡ count_below 512 test
unfolding set_of
set_size-set_of test = set_size_range 512 test
