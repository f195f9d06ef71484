-- Sets as words.
use Rattle.std.proofs.Common.{rules, ◌≡◌, ◌≢◌, ℕ, suc, zero, ◌+◌, ◌-◌, ◌*◌, ◌/◌, ◌%◌, ◌^◌, ◌<◌, max, min, Bool, true, false, cond, not, ◌&&◌, ◌||◌, List, [], ◌∷◌, ◌++◌, length, map, set, get_or, refl, ap, sym, ◌∙◌, subst, arith, inl, inr, nat_eq, nat_lt, All, eq-eqb, ne_eqb, lt-ltb, bit_and, bit_or, bit_xor, count_ones, count_by, sum_by, if◌then◌else◌, Decides}
use Rattle.std.specs.Int.{bit_at, w64}
use Rattle.std.specs.List.{range_with_len}
use Rattle.std.proofs.lemmas.List.{same_lists, length-append, get_or_append_left, get_or-append_right, length-set, get_or-set_same, get_or-set_other, get_or_default}
use Rattle.std.proofs.lemmas.List.FromFn.{get_or-map-range_with_len}
use Rattle.std.proofs.lemmas.Nat.Bits.{shr_and_one, bit_at_or, bit_at_set_same, bit_at_set_other, bit_at-lt, bit_at_lowest, bit_at-suc, bit_at_ones, bit_at_ones_above, bit_at_and, bit_at_not, bit_at_xor}
use Rattle.std.proofs.lemmas.Nat.{or_lt, xor_lt, one_shl, pow_below, and_le_l}
use Rattle.std.proofs.lemmas.Bool.Decides.{eqb_tells, nat_tests, same_from_decides}
use lib.Count.{ones, ones_step}
use Rattle.std.proofs.lemmas.List.Sums.{sum_by-append, sum_by-cons}
use Rattle.std.proofs.Math.Nat.{pow-suc}
use Rattle.thp_history.proofs.Counting.{count-cons}
use Rattle.std.proofs.lemmas.Bool.{cases_lt}
use Rattle.std.specs.Cmp.{booleans_Decides}
use Rattle.std.proofs.lemmas.Slice.Eq.{slice_eq-Decides}
use Rattle.thp_history.specs.Prelude.{set_of, has, set_size, one_alone, some_below, same_set, in_words, words_of, words_are, AreWords, get_or-set_of, length-set_of}
use Rattle.thp_history.proofs.Below.{some_no, some_none}

-- a list of 512 truths is the set of a test that agrees with it
pub set_of_is : (t : List Bool) (test : ℕ → Bool) → length t ≡ 512 → ((i : ℕ) → i < 512 → get_or t i false ≡ test i) → t ≡ set_of test
set_of_is t test e f =
    same_lists t (set_of test) (e ∙ sym (length-set_of test))
    (λ k d h. get_or_default t k d false h ∙ f k (omega arith) ∙ sym (get_or-set_of test k (omega arith)) ∙ get_or_default (set_of test) k false d (omega (arith, length-set_of test)))

-- tests that agree below 512 make one set
pub set_of-ext : (f g : ℕ → Bool) → ((i : ℕ) → i < 512 → f i ≡ g i) → set_of f ≡ set_of g
set_of-ext f g h = set_of_is (set_of f) g (length-set_of f) (λ i below. get_or-set_of f i below ∙ h i below)

-- the bit that the code reads shows whether a number is in the set
pub has_word : (ws : List ℕ) (i : ℕ) → i < 512 → nat_eq (bit_and (get_or ws (i / 64) 0 / 2 ^ (i % 64)) 1) 1 ≡ has (set_of (in_words ws)) i
unfolding in_words
has_word ws i h = ap (λ n. nat_eq n 1) (shr_and_one (get_or ws (i / 64) 0) (i % 64)) ∙ sym (get_or-set_of (in_words ws) i h)

-- eight empty words are the empty set
pub none_set : set_of (in_words (0 ∷ 0 ∷ 0 ∷ 0 ∷ 0 ∷ 0 ∷ 0 ∷ 0 ∷ [])) ≡ set_of (λ i. false)
unfolding set_of in_words
none_set = refl

-- eight full words are the set of all
pub all_set : set_of (in_words (18446744073709551615 ∷ 18446744073709551615 ∷ 18446744073709551615 ∷ 18446744073709551615 ∷ 18446744073709551615 ∷ 18446744073709551615 ∷ 18446744073709551615 ∷ 18446744073709551615 ∷ [])) ≡ set_of (λ i. true)
unfolding set_of in_words
all_set = refl

-- one bit set
abbrev pub with_bit : List ℕ → ℕ → List ℕ
with_bit ws i = set ws (i / 64) (bit_or (get_or ws (i / 64) 0) (1 * 2 ^ (i % 64) % 2 ^ 64))

-- a mask of one bit fits a word
mask_below : (i : ℕ) → 1 * 2 ^ (i % 64) % 2 ^ 64 < 2 ^ 64
mask_below i = omega (arith, one_shl (i % 64) 64 (omega arith), pow_below (i % 64) 64 (omega arith))

-- each word fits
at_least : (ws : List ℕ) → AreWords ws → (k d : ℕ) → k < 8 → get_or ws k d < 2 ^ 64
at_least ws a k d h = a.fit k d (omega (arith, a.eight))

-- words of which one is another are words
pub AreWords-set : (ws : List ℕ) (k w : ℕ) → AreWords ws → k < 8 → w < 2 ^ 64 → AreWords (set ws k w)
AreWords-set ws k w a h fits = grind (arith, length-set, eqb_tells, get_or, get_or-set_same, get_or-set_other)

-- words with one bit set are words
pub with_bit-AreWords : (ws : List ℕ) (i : ℕ) → i < 512 → AreWords ws → AreWords (with_bit ws i)
with_bit-AreWords ws i h a = AreWords-set ws (i / 64) _ a (omega arith) (or_lt 64 _ _ (at_least ws a (i / 64) 0 (omega arith)) (mask_below i))

-- a bit of a word with one bit set
put_bit : (w r s : ℕ) → s < 64 → nat_eq (bit_at (bit_or w (1 * 2 ^ s % 2 ^ 64)) r) 1 ≡ (nat_eq r s || nat_eq (bit_at w r) 1)
put_bit w r s h =
    elim (eqb_tells r s) [
      | inl y ↦
          let P : ℕ → Type 0 = λ x. bit_at (bit_or w (1 * 2 ^ s % 2 ^ 64)) x ≡ 1 in
          eq-eqb _ 1 (subst P (sym y.1) (bit_at_set_same w64 w s h)) ∙ sym (ap (λ b. b || nat_eq (bit_at w r) 1) y.0)
      | inr y ↦ ap (λ n. nat_eq n 1) (bit_at_set_other w64 w s h r y.1) ∙ sym (ap (λ b. b || nat_eq (bit_at w r) 1) y.0)
    ]

-- numbers in one word differ in their bit
same_place : (k i : ℕ) → k / 64 ≡ i / 64 → nat_eq (k % 64) (i % 64) ≡ nat_eq k i
same_place k i e = grind (arith, eqb_tells, eq-eqb, ne_eqb)

-- numbers in different words differ
other_place : (k i : ℕ) → (k / 64 ≢ i / 64) → nat_eq k i ≡ false
other_place k i f = ne_eqb k i (λ e. f (ap (λ n. n / 64) e))

-- a number is among them if it is the new one or was there
with_bit-in : (ws : List ℕ) (i k : ℕ) → i < 512 → length ws ≡ 8 → in_words (with_bit ws i) k ≡ (nat_eq k i || in_words ws k)
unfolding in_words
with_bit-in ws i k h e = grind (arith, eqb_tells, bit_or, get_or, get_or-set_same, nat_eq, put_bit, same_place, get_or-set_other, other_place)

-- a set with one more number
pub set_set_of : (t : List Bool) (i : ℕ) → length t ≡ 512 → i < 512 → set t i true ≡ set_of (λ k. nat_eq k i || has t k)
set_set_of t i e h = grind (arith, set_of_is, length-set, eqb_tells, get_or, get_or-set_same, get_or-set_other)

-- the words with one bit set are the set with one more number
pub with_bit-set_of : (ws : List ℕ) (i : ℕ) → i < 512 → length ws ≡ 8 → set_of (in_words (with_bit ws i)) ≡ set (set_of (in_words ws)) i true
with_bit-set_of ws i h e =
    set_of-ext _ _ (λ k below. with_bit-in ws i k h e ∙ ap (λ b. nat_eq k i || b) (sym (get_or-set_of (in_words ws) k below)))
    ∙ sym (set_set_of (set_of (in_words ws)) i (length-set_of (in_words ws)) h)

-- the bits of either
abbrev pub or_words : List ℕ → List ℕ → List ℕ
or_words ws vs = map (λ k. bit_or (get_or ws k 0) (get_or vs k 0)) (range_with_len 0 8)

-- they are words
pub or_words-AreWords : (ws vs : List ℕ) → AreWords ws → AreWords vs → AreWords (or_words ws vs)
or_words-AreWords ws vs a b = record {
  eight = refl;
  fit = λ k d h.
      rw (get_or-map-range_with_len (λ k. bit_or (get_or ws k 0) (get_or vs k 0)) 0 8 k k d h (omega arith)) (or_lt 64 _ _ (at_least ws a k 0 h) (at_least vs b k 0 h));
}

-- a bit of either
either_bit : (a b : ℕ) → a < 2 → b < 2 → nat_eq (max a b) 1 ≡ (nat_eq a 1 || nat_eq b 1)
either_bit a b f g = grind arith

-- they are the set of the numbers of either
pub or_words-set_of : (ws vs : List ℕ) → set_of (in_words (or_words ws vs)) ≡ set_of (λ i. has (set_of (in_words ws)) i || has (set_of (in_words vs)) i)
unfolding in_words
or_words-set_of ws vs =
    set_of-ext _ _
    (λ i h.
    ap (λ x. nat_eq (bit_at x (i % 64)) 1) (get_or-map-range_with_len (λ k. bit_or (get_or ws k 0) (get_or vs k 0)) 0 8 (i / 64) (i / 64) 0 (omega arith) (omega arith))
    ∙ ap (λ n. nat_eq n 1) (bit_at_or (get_or ws (i / 64) 0) (get_or vs (i / 64) 0) (i % 64))
    ∙ either_bit _ _ (bit_at-lt (get_or ws (i / 64) 0) (i % 64)) (bit_at-lt (get_or vs (i / 64) 0) (i % 64))
    ∙ sym (ap (λ b. b || in_words vs i) (get_or-set_of (in_words ws) i h))
    ∙ sym (ap (λ b. has (set_of (in_words ws)) i || b) (get_or-set_of (in_words vs) i h)))

-- a set has one form as words
pub words_back : (ws : List ℕ) (t : List Bool) → set_of (in_words ws) ≡ t → AreWords ws → words_of t ≡ ws
words_back ws t e a = ap words_of (sym e) ∙ words_are ws a

-- the words of the numbers below n
abbrev pub ones_below : ℕ → ℕ → ℕ
ones_below n k = 2 ^ min 64 (n - 64 * k) - 1

-- a bit of them
pub below_bit : (n k r : ℕ) → r < 64 → nat_eq (bit_at (ones_below n k) r) 1 ≡ nat_lt (64 * k + r) n
below_bit n k r h = grind (arith, cases_lt, eq-eqb, bit_at_ones, lt-ltb, nat_eq, bit_at_ones_above, nat_lt, nat_tests)

-- the bits of the first that aren't of the second
abbrev pub without_words : List ℕ → List ℕ → List ℕ
without_words ws vs = map (λ k. bit_and (get_or ws k 0) (18446744073709551615 - get_or vs k 0)) (range_with_len 0 8)

-- they are words
pub without_words-AreWords : (ws vs : List ℕ) → AreWords ws → AreWords (without_words ws vs)
without_words-AreWords ws vs a = record {
  eight = refl;
  fit = λ k d h.
      rw (get_or-map-range_with_len (λ k. bit_and (get_or ws k 0) (18446744073709551615 - get_or vs k 0)) 0 8 k k d h (omega arith))
      (omega (arith, and_le_l (get_or ws k 0) (18446744073709551615 - get_or vs k 0), at_least ws a k 0 h));
}

-- a bit of the first and not of the second
neither_bit : (a b : ℕ) → a < 2 → b < 2 → nat_eq (min a (1 - b)) 1 ≡ (nat_eq a 1 && not (nat_eq b 1))
neither_bit a b f g = grind (arith, nat_tests)

-- they are the set of the numbers of the first that aren't in the second
pub without_words-set_of : (ws vs : List ℕ) → AreWords vs → set_of (in_words (without_words ws vs)) ≡ set_of (λ i. has (set_of (in_words ws)) i && not (has (set_of (in_words vs)) i))
unfolding in_words
without_words-set_of ws vs v =
    set_of-ext _ _
    (λ i h.
    ap (λ x. nat_eq (bit_at x (i % 64)) 1) (get_or-map-range_with_len (λ k. bit_and (get_or ws k 0) (18446744073709551615 - get_or vs k 0)) 0 8 (i / 64) (i / 64) 0 (omega arith) (omega arith))
    ∙ ap (λ n. nat_eq n 1) (bit_at_and (get_or ws (i / 64) 0) (18446744073709551615 - get_or vs (i / 64) 0) (i % 64))
    ∙ ap (λ n. nat_eq (min (bit_at (get_or ws (i / 64) 0) (i % 64)) n) 1) (bit_at_not w64 (get_or vs (i / 64) 0) (i % 64) (at_least vs v (i / 64) 0 (omega arith)) (omega arith))
    ∙ neither_bit _ _ (bit_at-lt (get_or ws (i / 64) 0) (i % 64)) (bit_at-lt (get_or vs (i / 64) 0) (i % 64))
    ∙ sym (ap (λ b. b && not (in_words vs i)) (get_or-set_of (in_words ws) i h))
    ∙ sym (ap (λ b. has (set_of (in_words ws)) i && not b) (get_or-set_of (in_words vs) i h)))

-- the bits of both
abbrev pub and_words : List ℕ → List ℕ → List ℕ
and_words ws vs = map (λ k. bit_and (get_or ws k 0) (get_or vs k 0)) (range_with_len 0 8)

-- they are words
pub and_words-AreWords : (ws vs : List ℕ) → AreWords ws → AreWords (and_words ws vs)
and_words-AreWords ws vs a = record {
  eight = refl;
  fit = λ k d h.
      rw (get_or-map-range_with_len (λ k. bit_and (get_or ws k 0) (get_or vs k 0)) 0 8 k k d h (omega arith))
      (omega (arith, and_le_l (get_or ws k 0) (get_or vs k 0), at_least ws a k 0 h));
}

-- a bit of both
common_bit : (a b : ℕ) → a < 2 → b < 2 → nat_eq (min a b) 1 ≡ (nat_eq a 1 && nat_eq b 1)
common_bit a b f g = grind (arith, nat_tests)

-- they are the set of the numbers of both
pub and_words-set_of : (ws vs : List ℕ) → set_of (in_words (and_words ws vs)) ≡ set_of (λ i. has (set_of (in_words ws)) i && has (set_of (in_words vs)) i)
unfolding in_words
and_words-set_of ws vs =
    set_of-ext _ _
    (λ i h.
    ap (λ x. nat_eq (bit_at x (i % 64)) 1) (get_or-map-range_with_len (λ k. bit_and (get_or ws k 0) (get_or vs k 0)) 0 8 (i / 64) (i / 64) 0 (omega arith) (omega arith))
    ∙ ap (λ n. nat_eq n 1) (bit_at_and (get_or ws (i / 64) 0) (get_or vs (i / 64) 0) (i % 64))
    ∙ common_bit _ _ (bit_at-lt (get_or ws (i / 64) 0) (i % 64)) (bit_at-lt (get_or vs (i / 64) 0) (i % 64))
    ∙ sym (ap (λ b. b && in_words vs i) (get_or-set_of (in_words ws) i h))
    ∙ sym (ap (λ b. has (set_of (in_words ws)) i && b) (get_or-set_of (in_words vs) i h)))

-- the bits of one alone
abbrev pub xor_words : List ℕ → List ℕ → List ℕ
xor_words ws vs = map (λ k. bit_xor (get_or ws k 0) (get_or vs k 0)) (range_with_len 0 8)

-- they are words
pub xor_words-AreWords : (ws vs : List ℕ) → AreWords ws → AreWords vs → AreWords (xor_words ws vs)
xor_words-AreWords ws vs a b = record {
  eight = refl;
  fit = λ k d h.
      rw (get_or-map-range_with_len (λ k. bit_xor (get_or ws k 0) (get_or vs k 0)) 0 8 k k d h (omega arith)) (xor_lt 64 _ _ (at_least ws a k 0 h) (at_least vs b k 0 h));
}

-- a bit of one alone
odd_bit : (a b : ℕ) → a < 2 → b < 2 → nat_eq ((a + b) % 2) 1 ≡ one_alone (nat_eq a 1) (nat_eq b 1)
odd_bit x y f g = grind arith

-- they are the set of the numbers of one alone
pub xor_words-set_of : (ws vs : List ℕ) → set_of (in_words (xor_words ws vs)) ≡ set_of (λ i. one_alone (has (set_of (in_words ws)) i) (has (set_of (in_words vs)) i))
unfolding in_words
xor_words-set_of ws vs =
    set_of-ext _ _
    (λ i h.
    ap (λ x. nat_eq (bit_at x (i % 64)) 1) (get_or-map-range_with_len (λ k. bit_xor (get_or ws k 0) (get_or vs k 0)) 0 8 (i / 64) (i / 64) 0 (omega arith) (omega arith))
    ∙ ap (λ n. nat_eq n 1) (bit_at_xor (get_or ws (i / 64) 0) (get_or vs (i / 64) 0) (i % 64))
    ∙ odd_bit _ _ (bit_at-lt (get_or ws (i / 64) 0) (i % 64)) (bit_at-lt (get_or vs (i / 64) 0) (i % 64))
    ∙ sym (ap (λ b. one_alone b (in_words vs i)) (get_or-set_of (in_words ws) i h))
    ∙ sym (ap (λ b. one_alone (has (set_of (in_words ws)) i) b) (get_or-set_of (in_words vs) i h)))

-- what a word shows of its numbers
pub word_reports : (ws : List ℕ) (t : List Bool) (k i : ℕ) → set_of (in_words ws) ≡ t → k < 8 → i / 64 ≡ k → nat_eq (bit_at (get_or ws k 0) (i % 64)) 1 ≡ has t i
unfolding in_words
word_reports ws t k i e h at =
    ap (λ q. nat_eq (bit_at (get_or ws q 0) (i % 64)) 1) (sym at) ∙ sym (get_or-set_of (in_words ws) i (omega arith)) ∙ ap (λ s. has s i) e

-- a word that is written contains its numbers, and the others are as they were
pub word_written : (ws : List ℕ) (t : List Bool) (k w : ℕ) → set_of (in_words ws) ≡ t → length ws ≡ 8 → k < 8 →
    set_of (in_words (set ws k w)) ≡ set_of (λ i. if nat_eq (i / 64) k then nat_eq (bit_at w (i % 64)) 1 else has t i)
unfolding in_words
word_written ws t k w e eight h =
    set_of-ext _ _
    (λ i below.
    elim (eqb_tells (i / 64) k) [
      | inl y ↦
          ap (λ x. nat_eq (bit_at x (i % 64)) 1) (ap (λ q. get_or (set ws k w) q 0) y.1 ∙ get_or-set_same ws k w 0 (omega arith))
          ∙ sym (ap (λ b. if b then nat_eq (bit_at w (i % 64)) 1 else has t i) y.0)
      | inr y ↦
          ap (λ x. nat_eq (bit_at x (i % 64)) 1) (get_or-set_other ws k (i / 64) w 0 y.1)
          ∙ sym (get_or-set_of (in_words ws) i below) ∙ ap (λ s. has s i) e
          ∙ sym (ap (λ b. if b then nat_eq (bit_at w (i % 64)) 1 else has t i) y.0)
    ])

-- the lowest n bits of a word
bits_from : ℕ → ℕ → List Bool
bits_from zero w = []
bits_from (suc n) w = nat_eq (w % 2) 1 ∷ bits_from n (w / 2)

-- all bits of the words, one word after another
flat : List ℕ → List Bool
flat [] = []
flat (w ∷ ws) = bits_from 64 w ++ flat ws

-- as many bits as asked for
length-bits_from : (n w : ℕ) → length (bits_from n w) ≡ n
unfolding bits_from
length-bits_from zero w = refl
length-bits_from (suc n) w = omega (arith, length-bits_from n (w / 2))

-- each is the number's bit
get-bits_from : (n w i : ℕ) → i < n → get_or (bits_from n w) i false ≡ nat_eq (bit_at w i) 1
unfolding bits_from
get-bits_from zero w i h = absurd (omega arith)
get-bits_from (suc n) w zero h = ap (λ x. nat_eq x 1) (sym (bit_at_lowest w))
get-bits_from (suc n) w (suc i) h = get-bits_from n (w / 2) i (omega arith) ∙ ap (λ x. nat_eq x 1) (sym (bit_at-suc w i))

-- the lowest bit
odd : (w : ℕ) → cond {A = ℕ} (nat_eq (w % 2) 1) 1 0 ≡ w % 2
odd w = grind (arith, nat_tests)

-- zero has no bit
no_ones : ones 0 ≡ 0
unfolding ones
no_ones = refl

-- as many are set as the number has ones
size-bits_from : (n w : ℕ) → w < 2 ^ n → count_by (λ b. b) (bits_from n w) ≡ ones w
unfolding bits_from
size-bits_from zero w h = let none : 0 ≡ w = omega arith in sym no_ones ∙ ap ones none
size-bits_from (suc n) w h =
    omega (arith, count-cons (λ b. b) (nat_eq (w % 2) 1) (bits_from n (w / 2)), odd w, ones_step w, size-bits_from n (w / 2) (omega (arith, pow-suc 2 n)))

-- 64 bits for each word
length-flat : (ws : List ℕ) → length (flat ws) ≡ 64 * length ws
unfolding flat
length-flat [] = refl
length-flat (w ∷ ws) = omega (arith, length-append (bits_from 64 w) (flat ws), length-bits_from 64 w, length-flat ws)

-- each is a bit of its word
get-flat : (ws : List ℕ) (k r : ℕ) → r < 64 → k < length ws → get_or (flat ws) (64 * k + r) false ≡ nat_eq (bit_at (get_or ws k 0) r) 1
unfolding flat
get-flat [] k r h g = absurd (omega arith)
get-flat (w ∷ ws) zero r h g =
    ap (λ i. get_or (bits_from 64 w ++ flat ws) i false) (here r)
    ∙ get_or_append_left (bits_from 64 w) (flat ws) false r (omega (arith, length-bits_from 64 w))
    ∙ get-bits_from 64 w r h where
      here : (r : ℕ) → 64 * 0 + r ≡ r
      here r = omega arith
get-flat (w ∷ ws) (suc k) r h g =
    get_or-append_right (bits_from 64 w) (flat ws) 64 (64 * suc k + r) false (length-bits_from 64 w) (omega arith)
    ∙ ap (λ i. get_or (flat ws) i false) (there k r)
    ∙ get-flat ws k r h (omega arith) where
      there : (k r : ℕ) → 64 * suc k + r - 64 ≡ 64 * k + r
      there k r = omega arith

-- as many are set as the words have ones
size-flat : (ws : List ℕ) → All (λ w. w < 2 ^ 64) ws → count_by (λ b. b) (flat ws) ≡ sum_by count_ones ws
unfolding flat
size-flat [] a = refl
size-flat (w ∷ ws) a =
    omega (arith, sum_by-append (λ (b : Bool). cond b 1 0) (bits_from 64 w) (flat ws), sum_by-cons count_ones w ws, size-bits_from 64 w (a 0 0 (omega arith)), size-flat ws (λ k d h. a (suc k) d (omega (arith, h))))

-- so the set is as large as the words have ones
pub set_size-words : (ws : List ℕ) → AreWords ws → sum_by count_ones ws ≡ set_size (set_of (in_words ws))
unfolding in_words
set_size-words ws a =
    sym (size-flat ws a.fit)
    ∙ ap set_size (set_of_is (flat ws) (in_words ws) (length-flat ws ∙ ap (λ n. 64 * n) a.eight)
    (λ i h. ap (λ j. get_or (flat ws) j false) (parts i) ∙ get-flat ws (i / 64) (i % 64) (omega arith) (omega (arith, a.eight)))) where
      parts : (i : ℕ) → i ≡ 64 * (i / 64) + i % 64
      parts i = omega arith

-- two sets are the same exactly where their truths are equal
pub same_set-Decides : (s t : List Bool) → Decides (same_set s t) (s ≡ t)
same_set-Decides s t = slice_eq-Decides booleans_Decides s t (same_set s t) refl

-- which a test of their words finds
pub same_words : (ws vs : List ℕ) (s t : List Bool) → set_of (in_words ws) ≡ s → set_of (in_words vs) ≡ t → AreWords ws → AreWords vs →
    (r : Bool) → Decides r (ws ≡ vs) → r ≡ same_set s t
same_words ws vs s t e f a b r d =
    same_from_decides {P = s ≡ t} r (same_set s t) (
      λ yes. sym e ∙ ap (λ us. set_of (in_words us)) (d.0 yes) ∙ f,
      λ same. d.1 (sym (words_back ws s e a) ∙ ap words_of same ∙ words_back vs t f b),
    )
    (same_set-Decides s t)

-- eight empty words
zeros_AreWords : AreWords (0 ∷ 0 ∷ 0 ∷ 0 ∷ 0 ∷ 0 ∷ 0 ∷ 0 ∷ [])
zeros_AreWords = search rules

-- a test for eight empty words is one for the empty set
pub same_none : (ws : List ℕ) (t : List Bool) → set_of (in_words ws) ≡ t → AreWords ws → (r : Bool) → Decides r (ws ≡ 0 ∷ 0 ∷ 0 ∷ 0 ∷ 0 ∷ 0 ∷ 0 ∷ 0 ∷ []) → r ≡ same_set t (set_of (λ i. false))
same_none ws t e a r d = same_words ws (0 ∷ 0 ∷ 0 ∷ 0 ∷ 0 ∷ 0 ∷ 0 ∷ 0 ∷ []) t (set_of (λ i. false)) e none_set a zeros_AreWords r d

-- a set that no test finds a number in is the empty one
pub empty_has_none : (ws : List ℕ) (t : List Bool) (r : Bool) → set_of (in_words ws) ≡ t → r ≡ same_set t (set_of (λ i. false)) → r ≡ not (some_below 512 (has t))
empty_has_none ws t r e reports =
    same_from_decides {P = t ≡ set_of (λ i. false)} r (not (some_below 512 (has t))) (
      λ y. (same_set-Decides t (set_of (λ i. false))).0 (sym reports ∙ y),
      λ same. reports ∙ (same_set-Decides t (set_of (λ i. false))).1 same,
    ) (
      λ y. set_of_is t (λ i. false) (sym (ap length e) ∙ length-set_of (in_words ws)) (some_none 512 (has t) (flipped (some_below 512 (has t)) y)),
      λ same. ap not (some_no 512 (has t) (λ i below. ap (λ s. has s i) same ∙ get_or-set_of (λ j. false) i below)),
    ) where
      flipped : (b : Bool) → not b ≡ true → b ≡ false
      flipped true f = sym f
      flipped false f = refl
