-- The first number from a place on that is in a set, or that isn't: word by word, as the code looks for it.
use Rattle.std.proofs.Common.{◌≡◌, ℕ, ◌+◌, ◌-◌, ◌/◌, ◌%◌, ◌^◌, ◌<◌, ◌≤◌, Bool, true, false, cond, not, List, length, get_or, ap, sym, ◌∙◌, arith, nat_eq, eq-eqb, ne_eqb, inl, inr, pow-add}
use Rattle.std.specs.Int.{bit_at, trailing_zeros, w64}
use Rattle.std.proofs.lemmas.Bool.{cases_lt}
use Rattle.std.proofs.lemmas.Nat.Bits.{bit_at-zero, bit_at-lt, bit_at_not, bit_at_above, bit_at-trailing_zeros}
use Rattle.std.proofs.Math.Nat.{div-div-eq-div-mul, div-le_self}
use Rattle.thp_history.specs.Prelude.{has, set_of, in_words, AreWords, get_or-set_of, length-set_of}

-- a bit of a number that was shifted
bit_at-shifted : (n r j : ℕ) → bit_at (n / 2 ^ r) j ≡ bit_at n (r + j)
bit_at-shifted n r j = ap (λ q. q % 2) (div-div-eq-div-mul n (2 ^ r) (2 ^ j) ∙ ap (λ d. n / d) (sym (pow-add 2 r j)))

-- the bits that are looked for: those of the word, or all others
abbrev pub marks : Bool → ℕ → ℕ
marks is_in w = cond is_in w (18446744073709551615 - w)

-- they fit a word
marks_fit : (b : Bool) (w : ℕ) → w < 2 ^ 64 → marks b w < 2 ^ 64
marks_fit x w f = grind arith

-- a mark shows that the number is in the set as was asked for
marked : (b : Bool) (w r : ℕ) → w < 2 ^ 64 → r < 64 → bit_at (marks b w) r ≡ 1 → nat_eq (bit_at w r) 1 ≡ b
marked true w r f h e = eq-eqb _ 1 e
marked false w r f h e = ne_eqb _ 1 (λ one. go (bit_at w r) one (sym (bit_at_not w64 w r f h) ∙ e)) where
  go : (n : ℕ) → n ≡ 1 → 1 - n ≡ 1 → ⊥
  go n a b = omega arith

-- no mark shows that it isn't
unmarked : (b : Bool) (w r : ℕ) → w < 2 ^ 64 → r < 64 → bit_at (marks b w) r ≡ 0 → nat_eq (bit_at w r) 1 ≡ not b
unmarked true w r f h e = ne_eqb _ 1 (λ one. go (bit_at w r) one e) where
  go : (n : ℕ) → n ≡ 1 → n ≡ 0 → ⊥
  go n a b = omega arith
unmarked false w r f h e = eq-eqb _ 1 (go (bit_at w r) (bit_at-lt w r) (sym (bit_at_not w64 w r f h) ∙ e)) where
  go : (n : ℕ) → n < 2 → 1 - n ≡ 0 → n ≡ 1
  go n a b = omega arith

-- a number of the word at hand, by its bit
has_bit : (ws : List ℕ) (at i : ℕ) → i < 512 → i / 64 ≡ at / 64 → has (set_of (in_words ws)) i ≡ nat_eq (bit_at (get_or ws (at / 64) 0) (i % 64)) 1
unfolding in_words
has_bit ws at i h e = get_or-set_of (in_words ws) i h ∙ ap (λ k. nat_eq (bit_at (get_or ws k 0) (i % 64)) 1) e

-- the word at hand fits
word_fits : (ws : List ℕ) (at : ℕ) → AreWords ws → at < 512 → get_or ws (at / 64) 0 < 2 ^ 64
word_fits ws at a h = a.fit (at / 64) 0 (omega (arith, a.eight))

-- a number of this word at or behind a place
parse_bit_fast : (m at i : ℕ) → at ≤ i → i / 64 ≡ at / 64 → bit_at m (i % 64) ≡ bit_at (m / 2 ^ (at % 64)) (i - at)
parse_bit_fast m at i h e = grind (arith, bit_at-shifted)

-- where no mark is ahead in the word, none of its numbers from here on is as was asked for
pub parse_none_fast : (ws : List ℕ) (b : Bool) (at i : ℕ) → AreWords ws → at < 512 → marks b (get_or ws (at / 64) 0) / 2 ^ (at % 64) ≡ 0 →
    at ≤ i → i < at + (64 - at % 64) → has (set_of (in_words ws)) i ≡ not b
parse_none_fast ws b at i a h e low high =
    let w : ℕ = get_or ws (at / 64) 0 in
    let same : i / 64 ≡ at / 64 = omega arith in
    has_bit ws at i (omega arith) same
    ∙ unmarked b w (i % 64) (word_fits ws at a h) (omega arith)
    (parse_bit_fast (marks b w) at i low same ∙ ap (λ n. bit_at n (i - at)) e ∙ bit_at-zero (i - at))

-- where a mark is ahead, the lowest is in the same word, and its number is the first that is as was asked for
pub record FastFirst (set : List Bool) (b : Bool) (at z : ℕ) : Type 0 where
  pub inside : at + z < 512
  pub found : has set (at + z) ≡ b
  pub none_before : (i : ℕ) → at ≤ i → i < at + z → has set i ≡ not b

-- a mark is below 64
mark_below : (m r : ℕ) → m < 2 ^ 64 → bit_at m r ≡ 1 → r < 64
mark_below m r f e = elim (cases_lt r 64) [ inl y ↦ y | inr y ↦ absurd (go (bit_at m r) e (bit_at_above m 64 r f y)) ] where
  go : (n : ℕ) → n ≡ 1 → n ≡ 0 → ⊥
  go n a b = omega arith

-- what the bits of the word at hand say of its numbers
first_in_word : (ws : List ℕ) (b : Bool) (at z : ℕ) → AreWords ws → at < 512 → bit_at (marks b (get_or ws (at / 64) 0)) (at % 64 + z) ≡ 1 →
    ((i : ℕ) → i < z → bit_at (marks b (get_or ws (at / 64) 0)) (at % 64 + i) ≡ 0) → FastFirst (set_of (in_words ws)) b at z
first_in_word ws b at z a h e f =
    let w : ℕ = get_or ws (at / 64) 0 in
    let fits : w < 2 ^ 64 = word_fits ws at a h in
    let small : at % 64 + z < 64 = mark_below (marks b w) (at % 64 + z) (marks_fit b w fits) e in
    record {
      inside = omega arith;
      found =
          has_bit ws at (at + z) (omega arith) (omega arith)
          ∙ marked b w ((at + z) % 64) fits (omega arith) (ap (λ r. bit_at (marks b w) r) (place at z small) ∙ e);
      none_before = λ i low high.
          has_bit ws at i (omega arith) (omega arith)
          ∙ unmarked b w (i % 64) fits (omega arith) (ap (λ r. bit_at (marks b w) r) (behind at z i small low high) ∙ f (i - at) (omega arith));
    } where
      place : (at z : ℕ) → at % 64 + z < 64 → (at + z) % 64 ≡ at % 64 + z
      place at z h = omega arith

      behind : (at z i : ℕ) → at % 64 + z < 64 → at ≤ i → i < at + z → i % 64 ≡ at % 64 + (i - at)
      behind at z i h low high = omega arith

-- the lowest mark ahead is the first number that is as was asked for
pub parse_first_fast : (ws : List ℕ) (b : Bool) (at : ℕ) → AreWords ws → at < 512 → 0 < marks b (get_or ws (at / 64) 0) / 2 ^ (at % 64) →
    FastFirst (set_of (in_words ws)) b at (trailing_zeros w64 (marks b (get_or ws (at / 64) 0) / 2 ^ (at % 64)))
parse_first_fast ws b at a h pos =
    let m : ℕ = marks b (get_or ws (at / 64) 0) in
    let fits : m < 2 ^ 64 = marks_fit b (get_or ws (at / 64) 0) (word_fits ws at a h) in
    let lowest : (trailing_zeros w64 (m / 2 ^ (at % 64)) < 64) × (bit_at (m / 2 ^ (at % 64)) (trailing_zeros w64 (m / 2 ^ (at % 64))) ≡ 1) × ((i : ℕ) → i < trailing_zeros w64 (m / 2 ^ (at % 64)) → bit_at (m / 2 ^ (at % 64)) i ≡ 0) =
    bit_at-trailing_zeros w64 (m / 2 ^ (at % 64)) pos (omega (arith, div-le_self m (2 ^ (at % 64)))) in
    first_in_word ws b at (trailing_zeros w64 (m / 2 ^ (at % 64))) a h
    (sym (bit_at-shifted m (at % 64) (trailing_zeros w64 (m / 2 ^ (at % 64)))) ∙ lowest.1)
    (λ i below. sym (bit_at-shifted m (at % 64) i) ∙ lowest.2 i below)

-- the same of a set and of marks by their equations, as the code knows them
pub parse_found_fast : (ws : List ℕ) (set : List Bool) (b : Bool) (at m : ℕ) → set_of (in_words ws) ≡ set → m ≡ marks b (get_or ws (at / 64) 0) → AreWords ws → at < 512 →
    0 < m / 2 ^ (at % 64) → FastFirst set b at (trailing_zeros w64 (m / 2 ^ (at % 64)))
parse_found_fast ws set b at m view e a h pos = grind (arith, parse_first_fast)

pub parse_nothing_fast : (ws : List ℕ) (set : List Bool) (b : Bool) (at m : ℕ) → set_of (in_words ws) ≡ set → m ≡ marks b (get_or ws (at / 64) 0) → AreWords ws → at < 512 →
    m / 2 ^ (at % 64) ≡ 0 → (i : ℕ) → at ≤ i → i < at + (64 - at % 64) → has set i ≡ not b
parse_nothing_fast ws set b at m view e a h none i low high = grind (arith, parse_none_fast)

-- a set is a list of 512 truths
pub size_is : (ws : List ℕ) (set : List Bool) → set_of (in_words ws) ≡ set → length set ≡ 512
size_is ws set view = ap length (sym view) ∙ length-set_of (in_words ws)
