-- A set of subpages as eight words of 64 bits.
use Rattle.std.specs.Prelude.{◌≡◌, ℕ, zero, suc, ◌+◌, ◌*◌, ◌/◌, ◌%◌, ◌^◌, ◌<◌, Bool, true, false, cond, List, [], ◌∷◌, length, take, drop, map, nat_eq, get_or}
use Rattle.std.specs.List.{All, range_with_len}
use Rattle.std.specs.Int.{bit_at}
use Rattle.std.proofs.Common.{ap, sym, ◌∙◌, arith, subst}
use Rattle.std.proofs.lemmas.Grind.{same_number_lists}
use Rattle.std.proofs.Math.Nat.{pow-suc}
use Rattle.std.proofs.lemmas.List.FromFn.{get_or-map-range_with_len, length-map-range_with_len}
use Rattle.std.proofs.lemmas.Nat.Bits.{bit_at-suc, bit_at_lowest, bit_at-zero, same_from_bits_below, bit_at-lt}
use Rattle.std.proofs.lemmas.List.{get_or-drop, get_or-take, length-take-le, length-drop}
use Rattle.thp_history.specs.Sets.{set_of}
use Rattle.thp_history.specs.declared.sub_set.SubSet.TheInside.{Inside}

-- whether bit i of the words is set
unfoldable pub in_words : List ℕ → ℕ → Bool
in_words ws i = nat_eq (bit_at (get_or ws (i / 64) 0) (i % 64)) 1

-- the number with these bits, lowest first
abbrev pub word_number : List Bool → ℕ
word_number [] = 0
word_number (b ∷ bs) = cond b 1 0 + 2 * word_number bs

unfoldable pub words_of : List Bool → List ℕ
words_of t = map (λ k. word_number (take 64 (drop (64 * k) t))) (range_with_len 0 8)

pub record AreWords (ws : List ℕ) : Type 0 where
  pub eight : length ws ≡ 8
  pub fit : All (λ w. w < 2 ^ 64) ws

digit : Bool → ℕ
digit b = cond b 1 0

half_of : (b : Bool) (n : ℕ) → (digit b + 2 * n) / 2 ≡ n
unfolding digit
half_of true n = omega arith
half_of false n = omega arith

low_of : (b : Bool) (n : ℕ) → (digit b + 2 * n) % 2 ≡ digit b
unfolding digit
low_of true n = omega arith
low_of false n = omega arith

number_below : (bs : List Bool) → word_number bs < 2 ^ length bs
unfolding digit
number_below [] = omega arith
number_below (b ∷ bs) = go b (word_number bs) (2 ^ length bs) (2 ^ suc (length bs)) (number_below bs) (pow-suc 2 (length bs)) where
  go : (b : Bool) (m n k : ℕ) → m < n → k ≡ n * 2 → cond b 1 0 + 2 * m < k
  go true m n k h e = omega arith
  go false m n k h e = omega arith

bit_of_number : (bs : List Bool) (i : ℕ) → bit_at (word_number bs) i ≡ digit (get_or bs i false)
unfolding digit
bit_of_number [] i = bit_at-zero i
bit_of_number (b ∷ bs) zero = bit_at_lowest (word_number (b ∷ bs)) ∙ low_of b (word_number bs)
bit_of_number (b ∷ bs) (suc i) = bit_at-suc (word_number (b ∷ bs)) i ∙ ap (λ n. bit_at n i) (half_of b (word_number bs)) ∙ bit_of_number bs i

digit_eq : (n : ℕ) → n < 2 → digit (nat_eq n 1) ≡ n
unfolding digit
digit_eq n h = grind arith

-- the value at i
pub get_or-set_of : (test : ℕ → Bool) (i : ℕ) → i < 512 → get_or (set_of test) i false ≡ test i
unfolding set_of
get_or-set_of test i h = get_or-map-range_with_len test 0 512 i i false h (omega arith)

pub length-set_of : (test : ℕ → Bool) → length (set_of test) ≡ 512
unfolding set_of
length-set_of test = length-map-range_with_len test 0 512

place_div : (k i : ℕ) → i < 64 → (64 * k + i) / 64 ≡ k
place_div k i h = omega arith

place_mod : (k i : ℕ) → i < 64 → (64 * k + i) % 64 ≡ i
place_mod k i h = omega arith

word_bit : (ws : List ℕ) (k i : ℕ) → k < 8 → i < 64 → digit (get_or (take 64 (drop (64 * k) (set_of (in_words ws)))) i false) ≡ bit_at (get_or ws k 0) i
unfolding in_words
word_bit ws k i h g =
    let t : List Bool = set_of (in_words ws) in
    ap digit (get_or-take 64 (drop (64 * k) t) i false g ∙ get_or-drop (64 * k) t i false ∙ get_or-set_of (in_words ws) (64 * k + i) (omega arith))
    ∙ ap (λ q. digit (nat_eq (bit_at (get_or ws q 0) ((64 * k + i) % 64)) 1)) (place_div k i g)
    ∙ ap (λ r. digit (nat_eq (bit_at (get_or ws k 0) r) 1)) (place_mod k i g)
    ∙ digit_eq (bit_at (get_or ws k 0) i) (bit_at-lt (get_or ws k 0) i)

sixty_four : (t : List Bool) (k : ℕ) → length t ≡ 512 → k < 8 → length (take 64 (drop (64 * k) t)) ≡ 64
sixty_four t k e h = length-take-le 64 (drop (64 * k) t) (omega (arith, length-drop (64 * k) t))

same_word : (ws : List ℕ) (k : ℕ) → k < 8 → get_or ws k 0 < 2 ^ 64 → word_number (take 64 (drop (64 * k) (set_of (in_words ws)))) ≡ get_or ws k 0
same_word ws k h f =
    let bs : List Bool = take 64 (drop (64 * k) (set_of (in_words ws))) in
    let short : length bs ≡ 64 = sixty_four (set_of (in_words ws)) k (length-set_of (in_words ws)) h in
    same_from_bits_below 64 (word_number bs) (get_or ws k 0) (let P : ℕ → Type 0 = λ n. word_number bs < 2 ^ n in subst P short (number_below bs)) f
    (λ i below. bit_of_number bs i ∙ word_bit ws k i h below)

eight_of : (t : List Bool) → length (words_of t) ≡ 8
unfolding words_of
eight_of t = length-map-range_with_len (λ k. word_number (take 64 (drop (64 * k) t))) 0 8

at_word : (t : List Bool) (k : ℕ) → k < 8 → get_or (words_of t) k 0 ≡ word_number (take 64 (drop (64 * k) t))
unfolding words_of
at_word t k h = get_or-map-range_with_len (λ k. word_number (take 64 (drop (64 * k) t))) 0 8 k k 0 h (omega arith)

pub words_are : (ws : List ℕ) → AreWords ws → words_of (set_of (in_words ws)) ≡ ws
words_are ws h =
    same_number_lists (words_of (set_of (in_words ws))) ws (eight_of (set_of (in_words ws)) ∙ sym h.eight)
    (λ k below. at_word (set_of (in_words ws)) k (omega (arith, eight_of (set_of (in_words ws)))) ∙ same_word ws k (omega (arith, eight_of (set_of (in_words ws)))) (h.fit k 0 (omega (arith, h.eight, eight_of (set_of (in_words ws))))))

pub words_of-truths : (s : Inside) → AreWords s.words → record { words = words_of (set_of (in_words s.words)) } ≡ s
words_of-truths s h = ap same (words_are s.words h) where
  same : List ℕ → Inside
  same ws = record { words = ws }
