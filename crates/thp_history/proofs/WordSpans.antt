-- The words of a range: full ones, of which the first and the last are cut.
use Rattle.std.proofs.Common.{◌≡◌, ◌≢◌, ℕ, ◌+◌, ◌-◌, ◌*◌, ◌/◌, ◌%◌, ◌^◌, ◌<◌, ◌≤◌, Bool, true, false, not, ◌&&◌, ◌||◌, min, List, [], ◌∷◌, set, get_or, refl, ap, ap₂, sym, ◌∙◌, arith, nat_eq, nat_le, nat_lt, inl, inr, bit_and, get_or-set_same, get_or-set_other}
use Rattle.std.specs.Int.{bit_at, w64}
use Rattle.std.proofs.lemmas.Nat.{and_le_l}
use Rattle.std.proofs.lemmas.Nat.Bits.{bit_at_and, bit_at_not, bit_at-lt, bit_at-zero}
use Rattle.std.proofs.lemmas.Bool.Decides.{eqb_tells, nat_tests}
use Rattle.thp_history.specs.Prelude.{set_of, has, covers, in_words, AreWords, get_or-set_of}
use Rattle.thp_history.proofs.WordLemmas.{set_of-ext, all_set, ones_below, below_bit, AreWords-set}

-- the words have the numbers from one place up to another
abbrev pub Spans : ℕ → ℕ → List ℕ → Type 0
Spans first end ws = (i : ℕ) → i < 512 → in_words ws i ≡ (nat_lt i end && nat_le first i)

-- where all words are full, all numbers
abbrev pub full_words : List ℕ
full_words = 18446744073709551615 ∷ 18446744073709551615 ∷ 18446744073709551615 ∷ 18446744073709551615 ∷ 18446744073709551615 ∷ 18446744073709551615 ∷ 18446744073709551615 ∷ 18446744073709551615 ∷ []

pub spans_full : Spans 0 512 full_words
spans_full i below =
    sym (get_or-set_of (in_words full_words) i below) ∙ ap (λ t. has t i) all_set ∙ get_or-set_of (λ j. true) i below ∙ go where
      go : true ≡ (nat_lt i 512 && nat_le 0 i)
      go = grind (arith, nat_tests)

-- a number of a word that was set, and one of another
in_set : (ws : List ℕ) (k v i : ℕ) → AreWords ws → k < 8 → i / 64 ≡ k → in_words (set ws k v) i ≡ nat_eq (bit_at v (i % 64)) 1
unfolding in_words
in_set ws k v i a h e = ap (λ x. nat_eq (bit_at x (i % 64)) 1) (ap (λ q. get_or (set ws k v) q 0) e ∙ get_or-set_same ws k v 0 (omega (arith, a.eight)))

in_other : (ws : List ℕ) (k v i : ℕ) → i / 64 ≢ k → in_words (set ws k v) i ≡ in_words ws i
unfolding in_words
in_other ws k v i g = ap (λ x. nat_eq (bit_at x (i % 64)) 1) (get_or-set_other ws k (i / 64) v 0 g)

-- a number of a word that was taken out
out_of : (ws : List ℕ) (k i : ℕ) → AreWords ws → k < 8 → i / 64 ≡ k → in_words (set ws k 0) i ≡ false
out_of ws k i a h e = in_set ws k 0 i a h e ∙ ap (λ x. nat_eq x 1) (bit_at-zero (i % 64))

-- one word less at the front
pub spans_less : (ws : List ℕ) (k : ℕ) → AreWords ws → k < 8 → Spans (64 * k) 512 ws → Spans (64 * (k + 1)) 512 (set ws k 0)
spans_less ws k a h spans i short = grind (arith, eqb_tells, out_of, in_other, nat_lt, nat_le, nat_tests)

-- the words have the numbers from `first` on, but for those from `end` on and below `to`
abbrev pub SpansBut : ℕ → ℕ → ℕ → List ℕ → Type 0
SpansBut first end to ws = (i : ℕ) → i < 512 → in_words ws i ≡ ((nat_lt i end || nat_le to i) && nat_le first i)

pub spans_but : (first end : ℕ) (ws : List ℕ) → Spans first 512 ws → SpansBut first end end ws
spans_but first end ws spans i short = grind (arith, nat_lt, nat_le, nat_tests)

-- one word less behind the range
pub spans_but_less : (ws : List ℕ) (first end k : ℕ) → AreWords ws → k < 8 → end ≤ 64 * k → SpansBut first end (64 * k) ws → SpansBut first end (64 * (k + 1)) (set ws k 0)
spans_but_less ws first end k a h least spans i short = grind (arith, eqb_tells, out_of, in_other, nat_lt, nat_le, nat_tests)

-- once no word is left behind it
pub spans_cut : (first end to : ℕ) (ws : List ℕ) → to ≡ 8 → SpansBut first end (64 * to) ws → Spans first end ws
spans_cut first end to ws all spans i short = grind (arith, nat_lt, nat_le, nat_tests)

-- a bit of both
both_bits : (x y : ℕ) → x < 2 → y < 2 → nat_eq (min x y) 1 ≡ (nat_eq x 1 && nat_eq y 1)
both_bits x y f g = grind (arith, nat_tests)

-- a bit of the first and not of the second
one_bit : (x y : ℕ) → x < 2 → y < 2 → nat_eq (min x (1 - y)) 1 ≡ (nat_eq x 1 && not (nat_eq y 1))
one_bit x y f g = grind (arith, nat_tests)

-- word k's bit of a number, where the words are known
known_bit : (ws : List ℕ) (k i : ℕ) → i / 64 ≡ k → nat_eq (bit_at (get_or ws k 0) (i % 64)) 1 ≡ in_words ws i
unfolding in_words
known_bit ws k i e = ap (λ q. nat_eq (bit_at (get_or ws q 0) (i % 64)) 1) (sym e)

-- the first word without the numbers before the range
pub spans_from : (ws : List ℕ) (first end start below : ℕ) → AreWords ws → start < 8 → start ≡ first / 64 → below ≡ ones_below first start → below < 2 ^ 64 →
    Spans (64 * start) end ws → Spans first end (set ws start (bit_and (get_or ws start 0) (18446744073709551615 - below)))
spans_from ws first end start below a h is e fits spans i short =
    let w : ℕ = get_or ws start 0 in
    elim (eqb_tells (i / 64) start) [
      | inl y ↦
          let place : 64 * start + i % 64 ≡ i = omega (arith, y.1) in
          in_set ws start _ i a h y.1
          ∙ ap (λ x. nat_eq x 1) (bit_at_and w (18446744073709551615 - below) (i % 64) ∙ ap (min (bit_at w (i % 64))) (bit_at_not w64 below (i % 64) fits (omega arith)))
          ∙ one_bit (bit_at w (i % 64)) (bit_at below (i % 64)) (bit_at-lt w (i % 64)) (bit_at-lt below (i % 64))
          ∙ ap₂ (λ p q. p && not q) (known_bit ws start i y.1 ∙ spans i short) (ap (λ v. nat_eq (bit_at v (i % 64)) 1) e ∙ below_bit first start (i % 64) (omega arith) ∙ ap (λ j. nat_lt j first) place)
          ∙ here (nat_lt i end) y.1
      | inr y ↦ in_other ws start _ i y.1 ∙ spans i short ∙ ap (λ p. nat_lt i end && p) (there y.1)
    ] where
      here : (p : Bool) → i / 64 ≡ start → ((p && nat_le (64 * start) i) && not (nat_lt i first)) ≡ (p && nat_le first i)
      here true e = grind (arith, nat_tests)
      here false e = refl

      there : i / 64 ≢ start → nat_le (64 * start) i ≡ nat_le first i
      there g = grind (arith, nat_tests)

-- the last word without the numbers behind the range
pub spans_up_to : (ws : List ℕ) (first end last to above : ℕ) → AreWords ws → last < 8 → 0 < end → last ≡ (end - 1) / 64 → to ≡ last + 1 → above ≡ ones_below end last →
    Spans first (64 * to) ws → Spans first end (set ws last (bit_and (get_or ws last 0) above))
spans_up_to ws first end last to above a h some is behind e spans i short = grind (arith, get_or, eqb_tells, in_set, nat_eq, bit_at_and, both_bits, bit_at-lt, known_bit, below_bit, nat_lt, nat_le, in_other, nat_tests)

-- a word may lose bits
pub AreWords-less : (ws : List ℕ) (k w : ℕ) → AreWords ws → k < 8 → AreWords (set ws k (bit_and (get_or ws k 0) w))
AreWords-less ws k w a h = AreWords-set ws k _ a h (omega (arith, and_le_l (get_or ws k 0) w, a.fit k 0 (omega (arith, a.eight))))

-- so the words are the range
pub spans_all : (ws : List ℕ) (first count : ℕ) → Spans first (first + count) ws → set_of (in_words ws) ≡ set_of (covers first count)
spans_all ws first count spans = grind (arith, set_of-ext, nat_lt, nat_le)

-- a range of no subpage is the empty set
pub covers_none : (first count : ℕ) → count ≡ 0 → set_of (λ i. false) ≡ set_of (covers first count)
covers_none first count e = grind (arith, set_of-ext, nat_tests)
