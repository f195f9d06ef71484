-- Sets of blocks as words of 64 bits.
use Rattle.std.proofs.Common.{◌≡◌, ℕ, suc, zero, ◌+◌, ◌*◌, ◌/◌, ◌%◌, ◌^◌, ◌<◌, ◌≤◌, Bool, true, false, cond, List, length, set, get_or, refl, ap, sym, ◌∙◌, arith, inl, inr, nat_eq, nat_lt, eq-eqb, ne_eqb, replicate, bit_and, bit_or}
use Rattle.std.specs.Int.{bit_at, w64, bit_not, trailing_zeros}
use Rattle.std.proofs.lemmas.List.{get_or-set_same, get_or-set_other, get_or_past}
use Rattle.std.proofs.lemmas.Nat.Bits.{bit_at_set_same, bit_at_set_other, bit_at_clear_same, bit_at_clear_other, bit_at-zero, bit_at-trailing_zeros}
use Rattle.std.proofs.lemmas.Bool.{cases_lt, lt-ltb, le-ltb}
use Rattle.std.proofs.lemmas.Bool.Decides.{eqb_tells}
use Rattle.thp_history.specs.Prelude.{in_words}

-- what a block's bit says after a word was written
in-set : (ws : List ℕ) (at v k : ℕ) → at < length ws →
    in_words (set ws at v) k ≡ cond (nat_eq (k / 64) at) (nat_eq (bit_at v (k % 64)) 1) (in_words ws k)
unfolding in_words
in-set ws at v k h = grind (arith, eqb_tells, nat_eq, get_or, get_or-set_same, get_or-set_other)

-- a word whose bits are those of the old one but for the block's
pub in-changed : (ws : List ℕ) (b v k : ℕ) (c : Bool) → b / 64 < length ws →
    ((r : ℕ) → r < 64 → nat_eq (bit_at v r) 1 ≡ cond (nat_eq r (b % 64)) c (nat_eq (bit_at (get_or ws (b / 64) 0) r) 1)) →
    in_words (set ws (b / 64) v) k ≡ cond (nat_eq k b) c (in_words ws k)
unfolding in_words
in-changed ws b v k c h f = grind (arith, in-set, eqb_tells, nat_eq, get_or, ne_eqb, eq-eqb)

-- one bit set
pub bit_put : (w s r : ℕ) → s < 64 → r < 64 → nat_eq (bit_at (bit_or w (1 * 2 ^ s % 2 ^ 64)) r) 1 ≡ cond (nat_eq r s) true (nat_eq (bit_at w r) 1)
bit_put w s r h g =
    elim (eqb_tells r s) [
      | inl y ↦
          ap (λ q. nat_eq (bit_at (bit_or w (1 * 2 ^ s % 2 ^ 64)) q) 1) y.1 ∙ eq-eqb _ 1 (bit_at_set_same w64 w s h)
          ∙ sym (ap (λ d. cond d true (nat_eq (bit_at w r) 1)) y.0)
      | inr y ↦ ap (λ n. nat_eq n 1) (bit_at_set_other w64 w s h r y.1) ∙ sym (ap (λ d. cond d true (nat_eq (bit_at w r) 1)) y.0)
    ]

-- one bit cleared
pub bit_cleared : (w s r : ℕ) → s < 64 → r < 64 → nat_eq (bit_at (bit_and w (bit_not w64 (1 * 2 ^ s % 2 ^ 64))) r) 1 ≡ cond (nat_eq r s) false (nat_eq (bit_at w r) 1)
bit_cleared w s r h g =
    elim (eqb_tells r s) [
      | inl y ↦
          ap (λ q. nat_eq (bit_at (bit_and w (bit_not w64 (1 * 2 ^ s % 2 ^ 64))) q) 1) y.1 ∙ ap (λ n. nat_eq n 1) (bit_at_clear_same w64 w s h)
          ∙ sym (ap (λ d. cond d false (nat_eq (bit_at w r) 1)) y.0)
      | inr y ↦ ap (λ n. nat_eq n 1) (bit_at_clear_other w64 w s h r g y.1) ∙ sym (ap (λ d. cond d false (nat_eq (bit_at w r) 1)) y.0)
    ]

-- the set with one more block
pub in-with : (ws : List ℕ) (b k : ℕ) → b / 64 < length ws →
    in_words (set ws (b / 64) (bit_or (get_or ws (b / 64) 0) (1 * 2 ^ (b % 64) % 2 ^ 64))) k ≡ cond (nat_eq k b) true (in_words ws k)
in-with ws b k h = in-changed ws b _ k true h (λ r below. bit_put (get_or ws (b / 64) 0) (b % 64) r (omega arith) below)

-- the set with one block less
pub in-without : (ws : List ℕ) (b k : ℕ) → b / 64 < length ws →
    in_words (set ws (b / 64) (bit_and (get_or ws (b / 64) 0) (bit_not w64 (1 * 2 ^ (b % 64) % 2 ^ 64)))) k ≡ cond (nat_eq k b) false (in_words ws k)
in-without ws b k h = in-changed ws b _ k false h (λ r below. bit_cleared (get_or ws (b / 64) 0) (b % 64) r (omega arith) below)

-- a word without bits has no block
pub in-zero : (ws : List ℕ) (k : ℕ) → get_or ws (k / 64) 0 ≡ 0 → in_words ws k ≡ false
unfolding in_words
in-zero ws k e = ap (λ w. nat_eq (bit_at w (k % 64)) 1) e ∙ ap (λ n. nat_eq n 1) (bit_at-zero (k % 64))

-- behind the words there is no block
pub in-past : (ws : List ℕ) (k : ℕ) → length ws ≤ k / 64 → in_words ws k ≡ false
in-past ws k h = in-zero ws k (get_or_past ws (k / 64) 0 h)

-- a list of zeros
pub zeros-get : (n k : ℕ) → get_or (replicate n zero) k zero ≡ zero
zeros-get zero k = refl
zeros-get (suc n) zero = refl
zeros-get (suc n) (suc k) = zeros-get n k

-- as long as was said
pub zeros-length : (n : ℕ) → length (replicate n zero) ≡ n
zeros-length zero = refl
zeros-length (suc n) = ap suc (zeros-length n)

-- words without bits are the empty set
pub in-zeros : (n k : ℕ) → in_words (replicate n 0) k ≡ false
in-zeros n k = in-zero (replicate n 0) k (zeros-get n (k / 64))

-- no block in the words passed
pub in-passed : (ws : List ℕ) (at : ℕ) → get_or ws at 0 ≡ 0 → ((k : ℕ) → k / 64 < at → in_words ws k ≡ false) → (k : ℕ) → k / 64 < at + 1 → in_words ws k ≡ false
in-passed ws at e f k h = grind (arith, eqb_tells, in-zero, get_or)

-- the lowest bit of the first word that has one is the least block
pub in-lowest : (ws : List ℕ) (at : ℕ) → 0 < get_or ws at 0 → get_or ws at 0 < 2 ^ 64 → ((k : ℕ) → k / 64 < at → in_words ws k ≡ false) →
    (in_words ws (64 * at + trailing_zeros w64 (get_or ws at 0)) ≡ true) × ((k : ℕ) → k < 64 * at + trailing_zeros w64 (get_or ws at 0) → in_words ws k ≡ false)
unfolding in_words
in-lowest ws at some fits f = (bit_of at z t.0 t.1, before) where
  z : ℕ
  z = trailing_zeros w64 (get_or ws at 0)

  t : (z < 64) × (bit_at (get_or ws at 0) z ≡ 1) × ((i : ℕ) → i < z → bit_at (get_or ws at 0) i ≡ 0)
  t = bit_at-trailing_zeros w64 (get_or ws at 0) some fits

  bit_of : (at z : ℕ) → z < 64 → bit_at (get_or ws at 0) z ≡ 1 → nat_eq (bit_at (get_or ws ((64 * at + z) / 64) 0) ((64 * at + z) % 64)) 1 ≡ true
  bit_of at z h e =
      let d : (64 * at + z) / 64 ≡ at = omega arith in
      let m : (64 * at + z) % 64 ≡ z = omega arith in
      eq-eqb _ 1 (ap (λ q. bit_at (get_or ws q 0) ((64 * at + z) % 64)) d ∙ ap (λ r. bit_at (get_or ws at 0) r) m ∙ e)

  before : (k : ℕ) → k < 64 * at + z → nat_eq (bit_at (get_or ws (k / 64) 0) (k % 64)) 1 ≡ false
  before k h =
      elim (eqb_tells (k / 64) at) [
        | inl y ↦ ap (λ q. nat_eq (bit_at (get_or ws q 0) (k % 64)) 1) y.1 ∙ ap (λ n. nat_eq n 1) (t.2 (k % 64) (omega (arith, y.1)))
        | inr y ↦ f k (omega (arith, y.1, t.0))
      ]

-- the set of the blocks below one more
pub one_more : (n b : ℕ) (c : Bool) → c ≡ nat_lt b n → cond (nat_eq b n) true c ≡ nat_lt b (n + 1)
one_more n b c e = grind (arith, eqb_tells, lt-ltb, nat_lt, cases_lt, le-ltb)
