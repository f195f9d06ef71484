-- Sets of numbers in words, with the set of the words that are not 0.
use Rattle.std.proofs.Common.{◌≡◌, ◌≢◌, ℕ, ◌+◌, ◌*◌, ◌/◌, ◌%◌, ◌^◌, ◌<◌, ◌≤◌, Bool, true, false, cond, not, List, length, get_or, refl, ap, sym, ◌∙◌, arith, inl, inr, nat_eq, eq-eqb, eqb-true, ne_eqb, bit_and, bit_or, length-set, set, slice_get, Some}
use Rattle.std.specs.Int.{bit_at, w64, bit_not, trailing_zeros}
use Rattle.std.specs.Int.Bits.{and_zero_l}
use Rattle.std.proofs.lemmas.List.{get_or-set_same, get_or-set_other, get_or_past}
use Rattle.std.proofs.lemmas.Option.{get_or_from_slice_get, slice_get_within}
use Rattle.std.proofs.lemmas.Nat.Bits.{bit_at-zero}
use Rattle.std.proofs.lemmas.Bool.{cases_lt}
use Rattle.std.proofs.lemmas.Bool.Decides.{eqb_tells}
use Rattle.thp_history.specs.Prelude.{in_words}
use Rattle.thp_live_pages.specs.FreeSets.{Sums}
use Rattle.thp_live_pages.proofs.FreeWords.{bit_put, in-with, in-without, in-zero}

-- a word with a bit is not 0
pub with_bit : (w s : ℕ) → s < 64 → bit_or w (1 * 2 ^ s % 2 ^ 64) ≢ 0
with_bit w s small none =
    let there : nat_eq (bit_at (bit_or w (1 * 2 ^ s % 2 ^ 64)) s) 1 ≡ true = bit_put w s s small small ∙ ap (λ d. cond d true (nat_eq (bit_at w s) 1)) (eq-eqb s s refl) in
    let gone : nat_eq (bit_at (bit_or w (1 * 2 ^ s % 2 ^ 64)) s) 1 ≡ false = ap (λ v. nat_eq (bit_at v s) 1) none ∙ ap (λ n. nat_eq n 1) (bit_at-zero s) in
    absurd (cc (there, gone))

-- the summary, where a word was written and the summary says so of it
sums_set : (ws : List ℕ) (at v room : ℕ) (f g : ℕ → Bool) → Sums ws f room → at < length ws → g at ≡ not (nat_eq v 0) → ((i : ℕ) → i ≢ at → g i ≡ f i) → Sums (set ws at v) g room
sums_set ws at v room f g s inside here others = record {
  few = omega (arith, s.few, length-set ws at v);
  enough = omega (arith, s.enough, length-set ws at v);
  sums = λ i.
      elim (eqb_tells i at) [
        | inl y ↦ ap g y.1 ∙ here ∙ ap (λ n. not (nat_eq n 0)) (sym (ap (λ k. get_or (set ws at v) k 0) y.1 ∙ get_or-set_same ws at v 0 inside))
        | inr y ↦ others i y.1 ∙ s.sums i ∙ ap (λ n. not (nat_eq n 0)) (sym (get_or-set_other ws at i v 0 y.1))
      ];
}

word_some : (n : ℕ) → n ≢ 0 → not (nat_eq n 0) ≡ true
word_some n some = ap not (ne_eqb n 0 some)

cond_other : (i at : ℕ) (b c : Bool) → i ≢ at → cond (nat_eq i at) b c ≡ c
cond_other i at b c apart = ap (λ d. cond d b c) (ne_eqb i at apart)

cond_same : (at : ℕ) (b c : Bool) → cond (nat_eq at at) b c ≡ b
cond_same at b c = ap (λ d. cond d b c) (eq-eqb at at refl)

-- a bit was set in a word that was 0, and in another
pub sums_begun : (ws : List ℕ) (at v room : ℕ) (f g : ℕ → Bool) → Sums ws f room → at < length ws → v ≢ 0 → ((i : ℕ) → g i ≡ cond (nat_eq i at) true (f i)) → Sums (set ws at v) g room
sums_begun ws at v room f g s inside some is =
    sums_set ws at v room f g s inside (is at ∙ cond_same at true (f at) ∙ sym (word_some v some)) (λ i apart. is i ∙ cond_other i at true (f i) apart)

pub sums_kept : (ws : List ℕ) (at w v room : ℕ) (f : ℕ → Bool) → Sums ws f room → at < length ws → get_or ws at 0 ≡ w → w ≢ 0 → v ≢ 0 → Sums (set ws at v) f room
sums_kept ws at w v room f s inside is was some =
    sums_set ws at v room f f s inside (s.sums at ∙ ap (λ n. not (nat_eq n 0)) is ∙ word_some w was ∙ sym (word_some v some)) (λ i apart. refl)

-- a word's last bit was cleared
pub sums_ended : (ws : List ℕ) (at v room : ℕ) (f g : ℕ → Bool) → Sums ws f room → at < length ws → v ≡ 0 → ((i : ℕ) → g i ≡ cond (nat_eq i at) false (f i)) → Sums (set ws at v) g room
sums_ended ws at v room f g s inside none is =
    sums_set ws at v room f g s inside (is at ∙ cond_same at false (f at) ∙ sym (ap (λ n. not (nat_eq n 0)) none)) (λ i apart. is i ∙ cond_other i at false (f i) apart)

-- a word with fewer bits is 0 if it was
pub and_some : (w m : ℕ) → bit_and w m ≢ 0 → w ≢ 0
and_some w m some none = absurd (some (ap (λ n. bit_and n m) none ∙ and_zero_l m))

-- the word that the summary names is not 0
pub summed_word : (ws : List ℕ) (f : ℕ → Bool) (room at : ℕ) → Sums ws f room → f at ≡ true → (at < length ws) × (0 < get_or ws at 0)
summed_word ws f room at s there = (inside, omega (arith, some)) where
  not_zero : (n : ℕ) → not (nat_eq n 0) ≡ true → n ≢ 0
  not_zero n e z = absurd (let y : nat_eq n 0 ≡ true = eq-eqb n 0 z in cc (e, y))

  some : get_or ws at 0 ≢ 0
  some = not_zero (get_or ws at 0) (sym (s.sums at) ∙ there)

  inside : at < length ws
  inside = elim (cases_lt at (length ws)) [
    | inl below ↦ below
    | inr past ↦ absurd (some (get_or_past ws at 0 past))
  ]

-- no number is in the words that it passes
pub passed_words : (ws : List ℕ) (f : ℕ → Bool) (room at : ℕ) → Sums ws f room → ((j : ℕ) → j < at → f j ≡ false) → (k : ℕ) → k / 64 < at → in_words ws k ≡ false
passed_words ws f room at s passed k before = in-zero ws k (zero_word (get_or ws (k / 64) 0) (sym (s.sums (k / 64)) ∙ passed (k / 64) before)) where
  zero_word : (n : ℕ) → not (nat_eq n 0) ≡ false → n ≡ 0
  zero_word n e = elim (eqb_tells n 0) [
    | inl y ↦ y.1
    | inr y ↦ absurd (let z = y.0 in cc (e, z))
  ]

-- and none at all if it names none
pub no_words : (ws : List ℕ) (f : ℕ → Bool) (room : ℕ) → Sums ws f room → ((j : ℕ) → f j ≡ false) → (k : ℕ) → in_words ws k ≡ false
no_words ws f room s none k = passed_words ws f room (k / 64 + 1) s (λ j before. none j) k (omega arith)

-- the words with one bit more, and with one less
pub words_with : (ws new : List ℕ) (i w k : ℕ) → slice_get ws (i / 64) ≡ Some w → new ≡ set ws (i / 64) (bit_or w (1 * 2 ^ (i % 64) % 2 ^ 64)) → in_words new k ≡ cond (nat_eq k i) true (in_words ws k)
words_with ws new i w k read is =
    ap (λ vs. in_words vs k) (is ∙ ap (λ v. set ws (i / 64) (bit_or v (1 * 2 ^ (i % 64) % 2 ^ 64))) (sym (get_or_from_slice_get ws (i / 64) w 0 read)))
    ∙ in-with ws i k (slice_get_within ws (i / 64) w read)

pub words_without : (ws new : List ℕ) (i w k : ℕ) → slice_get ws (i / 64) ≡ Some w → new ≡ set ws (i / 64) (bit_and w (bit_not w64 (1 * 2 ^ (i % 64) % 2 ^ 64))) →
    in_words new k ≡ cond (nat_eq k i) false (in_words ws k)
words_without ws new i w k read is =
    ap (λ vs. in_words vs k) (is ∙ ap (λ v. set ws (i / 64) (bit_and v (bit_not w64 (1 * 2 ^ (i % 64) % 2 ^ 64)))) (sym (get_or_from_slice_get ws (i / 64) w 0 read)))
    ∙ in-without ws i k (slice_get_within ws (i / 64) w read)
