-- Subpages of one word, bit by bit.
use Rattle.std.proofs.Common.{◌≡◌, ◌≢◌, ℕ, suc, zero, ◌+◌, ◌-◌, ◌*◌, ◌/◌, ◌%◌, ◌^◌, ◌<◌, ◌≤◌, min, Bool, true, false, not, ◌&&◌, List, nat_eq, refl, ap, sym, ◌∙◌, arith, inl, inr, pow-add, bit_and, bit_xor, if◌then◌else◌}
use Rattle.std.specs.Int.{bit_at, w64}
use Rattle.std.proofs.lemmas.Bool.{cases_lt}
use Rattle.std.proofs.lemmas.Bool.Decides.{eqb_tells, nat_tests}
use Rattle.std.proofs.lemmas.Nat.Bits.{bit_at_and, bit_at_xor, bit_at_not, bit_at-lt, bit_at-zero, bit_at-trailing_zeros, ones_shr, bit_at_mask_inside, bit_at_mask_below, bit_at_mask_above}
use Rattle.std.specs.Int.{trailing_zeros}
use Rattle.std.proofs.Math.Pow.{pow_mono}
use Rattle.std.proofs.Math.Nat.{mul_comm, suc-mul, one-le-pow}
use Rattle.thp_history.specs.Prelude.{set_of, has, covers, one_alone, some_below, get_or-set_of}
use Rattle.thp_history.proofs.Below.{some_yes, some_no}
use Rattle.thp_history.proofs.WordLemmas.{set_of-ext}
use Rattle.thp_page.specs.Prelude.{in_word}

-- a bit of both, a bit of the first alone, and a bit of one of the two alone
both : (x y : ℕ) → x < 2 → y < 2 → nat_eq (min x y) 1 ≡ (nat_eq x 1 && nat_eq y 1)
both x y f g = grind (arith, nat_tests)

first_alone : (x y : ℕ) → x < 2 → y < 2 → nat_eq (min x (1 - y)) 1 ≡ (nat_eq x 1 && not (nat_eq y 1))
first_alone x y f g = grind (arith, nat_tests)

one_of : (x y : ℕ) → x < 2 → y < 2 → nat_eq ((x + y) % 2) 1 ≡ one_alone (nat_eq x 1) (nat_eq y 1)
one_of x y f g = grind arith

-- those that a set has too
pub word_within : (set : List Bool) (at bits word i : ℕ) → ((j : ℕ) → j / 64 ≡ at → nat_eq (bit_at word (j % 64)) 1 ≡ has set j) →
    in_word at (bit_and bits word) i ≡ (in_word at bits i && has set i)
word_within set at bits word i reports = grind (arith, eqb_tells, nat_eq, bit_and, bit_at_and, both, bit_at-lt)

-- those that it hasn't
pub word_outside : (set : List Bool) (at bits word i : ℕ) → word < 2 ^ 64 → ((j : ℕ) → j / 64 ≡ at → nat_eq (bit_at word (j % 64)) 1 ≡ has set j) →
    in_word at (bit_and bits (18446744073709551615 - word)) i ≡ (in_word at bits i && not (has set i))
word_outside set at bits word i fits reports =
    elim (eqb_tells (i / 64) at) [
      | inl y ↦
          ap (λ b. b && nat_eq (bit_at (bit_and bits (18446744073709551615 - word)) (i % 64)) 1) y.0
          ∙ ap (λ n. nat_eq n 1) (bit_at_and bits (18446744073709551615 - word) (i % 64) ∙ ap (λ m. min (bit_at bits (i % 64)) m) (bit_at_not w64 word (i % 64) fits (omega arith)))
          ∙ first_alone _ _ (bit_at-lt bits (i % 64)) (bit_at-lt word (i % 64))
          ∙ ap (λ b. nat_eq (bit_at bits (i % 64)) 1 && not b) (reports i y.1)
          ∙ sym (ap (λ b. (b && nat_eq (bit_at bits (i % 64)) 1) && not (has set i)) y.0)
      | inr y ↦
          ap (λ b. b && nat_eq (bit_at (bit_and bits (18446744073709551615 - word)) (i % 64)) 1) y.0
          ∙ sym (ap (λ b. (b && nat_eq (bit_at bits (i % 64)) 1) && not (has set i)) y.0)
    ]

-- a set with that word written
pub word_turned : (old new : List Bool) (at bits word : ℕ) → ((j : ℕ) → j / 64 ≡ at → nat_eq (bit_at word (j % 64)) 1 ≡ has old j) →
    new ≡ set_of (λ j. if nat_eq (j / 64) at then nat_eq (bit_at (bit_xor word bits) (j % 64)) 1 else has old j) → new ≡ set_of (λ i. one_alone (has old i) (in_word at bits i))
word_turned old new at bits word reports written = grind (arith, set_of-ext, eqb_tells, nat_eq, bit_xor, bit_at_xor, one_of, bit_at-lt)

-- the set of them
pub word_set : (empty new : List Bool) (at bits i : ℕ) → i < 512 → empty ≡ set_of (λ j. false) →
    new ≡ set_of (λ j. if nat_eq (j / 64) at then nat_eq (bit_at bits (j % 64)) 1 else has empty j) → has new i ≡ in_word at bits i
word_set empty new at bits i below none written =
    ap (λ s. has s i) written ∙ get_or-set_of (λ j. if nat_eq (j / 64) at then nat_eq (bit_at bits (j % 64)) 1 else has empty j) i below
    ∙ ap (λ b. if nat_eq (i / 64) at then nat_eq (bit_at bits (i % 64)) 1 else b) (ap (λ s. has s i) none ∙ get_or-set_of (λ j. false) i below)
    ∙ go (nat_eq (i / 64) at) (nat_eq (bit_at bits (i % 64)) 1) where
      go : (a b : Bool) → (if a then b else false) ≡ (a && b)
      go true b = refl
      go false b = refl

-- there is none where no bit is set
pub word_none : (at bits : ℕ) → at < 8 → bits < 2 ^ 64 → nat_eq bits 0 ≡ not (some_below 512 (in_word at bits))
word_none at bits inside fits =
    elim (eqb_tells bits 0) [
      | inl y ↦ y.0 ∙ sym (ap not (some_no 512 (in_word at bits) (λ i below. ap (λ n. nat_eq (i / 64) at && nat_eq (bit_at n (i % 64)) 1) y.1 ∙ no_bit at i)))
      | inr y ↦ y.0 ∙ sym (ap not (found (bit_at-trailing_zeros w64 bits (some bits y.1) fits)))
    ] where
      no_bit : (at i : ℕ) → (nat_eq (i / 64) at && nat_eq (bit_at 0 (i % 64)) 1) ≡ false
      no_bit at i = ap (λ n. nat_eq (i / 64) at && nat_eq n 1) (bit_at-zero (i % 64)) ∙ and_false (nat_eq (i / 64) at) where
        and_false : (b : Bool) → (b && false) ≡ false
        and_false true = refl
        and_false false = refl

      some : (n : ℕ) → (n ≢ 0) → 0 < n
      some n f = omega arith

      found : (trailing_zeros w64 bits < 64) × (bit_at bits (trailing_zeros w64 bits) ≡ 1) × ((i : ℕ) → i < trailing_zeros w64 bits → bit_at bits i ≡ 0) → some_below 512 (in_word at bits) ≡ true
      found reports =
          let r : ℕ = trailing_zeros w64 bits in
          some_yes 512 (in_word at bits) (64 * at + r) (omega (arith, reports.0)) (there at r bits reports.0 reports.1) where
            there : (at r bits : ℕ) → r < 64 → bit_at bits r ≡ 1 → in_word at bits (64 * at + r) ≡ true
            there at r bits h e =
                ap (λ q. nat_eq q at && nat_eq (bit_at bits ((64 * at + r) % 64)) 1) (quotient at r h)
                ∙ ap (λ m. nat_eq at at && nat_eq (bit_at bits m) 1) (rest at r h)
                ∙ ap (λ n. nat_eq at at && nat_eq n 1) e ∙ self at where
                  quotient : (at r : ℕ) → r < 64 → (64 * at + r) / 64 ≡ at
                  quotient at r h = omega arith

                  rest : (at r : ℕ) → r < 64 → (64 * at + r) % 64 ≡ r
                  rest at r h = omega arith

                  self : (at : ℕ) → (nat_eq at at && true) ≡ true
                  self at = grind (arith, nat_tests)

-- ones moved up within a word
moved : (count shift : ℕ) → 0 < count → shift + count ≤ 64 → 18446744073709551615 / 2 ^ (64 - count) * 2 ^ shift % 2 ^ 64 ≡ 2 ^ (shift + count) - 2 ^ shift
moved count shift some one =
    ap (λ m. m * 2 ^ shift % 2 ^ 64) (ones_shr 64 (64 - count) (omega arith) ∙ ap (λ m. 2 ^ m - 1) (back count (omega arith)))
    ∙ ap (λ m. m % 2 ^ 64) (spread (2 ^ count) (2 ^ shift) (2 ^ (shift + count)) (joined shift count))
    ∙ fits (2 ^ (shift + count)) (2 ^ shift) (pow_mono {i = shift + count} {j = 64} one) (one-le-pow shift 2 (omega arith)) where
      back : (count : ℕ) → count ≤ 64 → 64 - (64 - count) ≡ count
      back count h = omega arith

      joined : (a b : ℕ) → 2 ^ (a + b) ≡ 2 ^ b * 2 ^ a
      joined a b = pow-add 2 a b ∙ mul_comm (2 ^ a) (2 ^ b)

      before : (a : ℕ) → suc a - 1 ≡ a
      before a = omega arith

      left : (m b c : ℕ) → c ≡ m + b → m ≡ c - b
      left m b c e = omega arith

      spread : (a b c : ℕ) → c ≡ a * b → (a - 1) * b ≡ c - b
      spread zero b c e = omega (arith, e)
      spread (suc a) b c e = ap (λ m. m * b) (before a) ∙ left (a * b) b c (e ∙ suc-mul a b)

      fits : (a b : ℕ) → a ≤ 2 ^ 64 → 1 ≤ b → (a - b) % 2 ^ 64 ≡ a - b
      fits a b h g = omega arith

-- the subpages of a range that stands in one word
pub word_range : (first count i : ℕ) → 0 < count → first % 64 + count ≤ 64 →
    in_word (first / 64) (18446744073709551615 / 2 ^ (64 - count) * 2 ^ (first % 64) % 2 ^ 64) i ≡ covers first count i
word_range first count i some one = grind (arith, moved, eqb_tells, nat_eq, nat_tests, cases_lt, bit_at_mask_below, bit_at_mask_inside, bit_at_mask_above)
