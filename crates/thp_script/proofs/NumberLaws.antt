-- Words as numbers: a word is read as a number exactly where it is that number's decimal text.
use Rattle.std.proofs.Common.{◌≡◌, ℕ, ◌^◌, ◌<◌, ◌≤◌, true, false, leb, eqb, not, ◌||◌, length, get_or, drop, List, [], ◌∷◌, ◌+◌, ◌*◌, Some, None, refl, sym, arith, rules, inl, inr, decimal}
use Rattle.std.proofs.Math.Seq.{drop-cons}
use Rattle.std.specs.List.{list_all}
use Rattle.std.specs.Char.{digit_value, is_ascii_digit}
use Rattle.std.specs.Str.Parse.{digits_value, digits_value_after}
use Rattle.std.proofs.lemmas.Str.Parse.{IsNumeralModel, numerals_by_value}
use Rattle.std.proofs.lemmas.Bool.{false_from_ne_true, true_from_ne_false, ltb-true, lt-ltb, le-leb, lt-leb, leb-true, eqb-true, eqb-false, eq-eqb, ne_eqb, and_parts, and_from, and_right, or_cases, or_left, or_right, not-true, not_from_false, cases_lt}
use Rattle.std.proofs.lemmas.List.Folds.{list_all_at}
use Rattle.std.proofs.lemmas.Option.{cond_some}
use Rattle.std.proofs.lemmas.Fmt.{digits_decimal, digits_value-decimal, decimal_nonempty, first_decimal, decimal_digit, decimal-digits_value}
use Rattle.thp_script.specs.Prelude.{Text, has_numeral_front, is_numeral, number_of}

-- digits have a value, as std reads and writes them
pub digits : IsNumeralModel (λ ds. list_all is_ascii_digit ds ≡ true) (digits_value 10)
digits = numerals_by_value _ (search rules)

pub none_of_no_numeral : (most : ℕ) (word : Text) → is_numeral word ≡ false → number_of most word ≡ None
unfolding number_of
none_of_no_numeral most word fails = rw fails refl

pub some_of_numeral : (most : ℕ) (word : Text) (n : ℕ) → is_numeral word ≡ true → n ≡ digits_value 10 word → n ≤ most → number_of most word ≡ Some n
unfolding number_of
some_of_numeral most word n numeral is le = rw (numeral, le-leb (digits_value 10 word) most (omega arith)) (rw is refl)

pub none_above : (most : ℕ) (word : Text) → most < digits_value 10 word → number_of most word ≡ None
unfolding number_of
none_above most word lt = rw (and_right (is_numeral word) (leb (digits_value 10 word) most) (lt-leb (digits_value 10 word) most lt)) refl

-- a word isn't read where its front is no numeral's
pub none_of_no_front : (most : ℕ) (word : Text) → has_numeral_front word ≡ false → number_of most word ≡ None
none_of_no_front most word fails = none_of_no_numeral most word (and_right (list_all is_ascii_digit word) (has_numeral_front word) fails)

-- nor where it isn't digits of a number that fits
pub none_of_no_value : (most : ℕ) (word : Text) → most < 2 ^ 64 → ((list_all is_ascii_digit word ≡ true) × (digits_value 10 word < 2 ^ 64) → ⊥) → number_of most word ≡ None
none_of_no_value most word fits no-value = grind (arith, cases_lt, none_of_no_numeral, false_from_ne_true, none_above)

-- what the test `is_numeral` says of a word
pub record IsNumeralWord (word : Text) : Type 0 where
  pub all_digits : list_all is_ascii_digit word ≡ true
  pub nonempty : 0 < length word
  pub no_leading_zero : get_or word 0 0 ≡ 48 → length word ≡ 1

pub numeral_parts : (word : Text) → is_numeral word ≡ true → IsNumeralWord word
numeral_parts word numeral = grind (arith, and_parts, ltb-true, or_cases, eqb-false, get_or, not-true, eqb-true)

-- more digits make no smaller number
value_grows : (n : ℕ) (ds : List ℕ) → n ≤ digits_value_after 10 n ds
value_grows n [] = omega arith
value_grows n (d ∷ ds) = omega (arith, value_grows (n * 10 + digit_value d) ds)

-- with the next digit, what was read so far isn't above the whole
pub value_so_far : (word : Text) (i n d : ℕ) → i < length word → digits_value_after 10 n (drop i word) ≡ digits_value 10 word → n * 10 + digit_value (get_or word i d) ≤ digits_value 10 word
value_so_far word i n d lt whole = grind (arith, get_or, drop-cons, value_grows)

-- a word isn't digits of a number that fits where one of its bytes is no digit, or the number up to it doesn't fit
pub no_value : (word : Text) (i n d : ℕ) → i < length word → digits_value_after 10 n (drop i word) ≡ digits_value 10 word → ((is_ascii_digit (get_or word i d) ≡ true) × (n * 10 + digit_value (get_or word i d) < 2 ^ 64) → ⊥) → (list_all is_ascii_digit word ≡ true) × (digits_value 10 word < 2 ^ 64) → ⊥
no_value word i n d lt whole none has = grind (arith, value_so_far, get_or, true_from_ne_false, list_all_at)

-- a number's decimal text is read as that number
pub number_of-decimal : (most n : ℕ) → n ≤ most → most < 2 ^ 64 → number_of most (decimal n) ≡ Some n
number_of-decimal most n le lt =
    let small : n < 2 ^ 64 = omega arith in
    let all-digits : list_all is_ascii_digit (decimal n) ≡ true = digits_decimal digits n small in
    let value : digits_value 10 (decimal n) ≡ n = digits_value-decimal digits n small in
    let some : 0 < length (decimal n) = decimal_nonempty n small in
    let front : (not (eqb (get_or (decimal n) 0 0) 48) || eqb (length (decimal n)) 1) ≡ true =
    elim (cases_lt 0 n) [
      | inl positive ↦ or_left _ _ (not_from_false _ (ne_eqb _ _ (λ (e : get_or (decimal n) 0 0 ≡ 48). absurd (omega (arith, first_decimal n positive small)))))
      | inr small-n ↦ or_right _ _ (eq-eqb (length (decimal n)) 1 (rw (decimal_digit n (omega arith)) refl))
    ] in
    some_of_numeral most (decimal n) n (and_from _ _ all-digits (and_from _ _ (lt-ltb _ _ some) front)) (sym value) le

-- and what is read as a number is that number's decimal text
pub decimal_of_number : (most n : ℕ) (word : Text) → most < 2 ^ 64 → number_of most word ≡ Some n → (n ≤ most) × (decimal n ≡ word)
unfolding number_of
decimal_of_number most n word lt e =
    let t = cond_some _ _ _ e in
    let p = and_parts _ _ t.0 in
    let parts = numeral_parts word p.0 in
    let below : digits_value 10 word ≤ most = leb-true _ _ p.1 in
    let is : digits_value 10 word ≡ n = t.1 in
    (omega arith, rw (← is) (decimal-digits_value digits word parts.all_digits parts.nonempty parts.no_leading_zero (omega arith)))

-- a word that isn't read is no number's decimal text
pub no_decimal : (most : ℕ) (word : Text) → most < 2 ^ 64 → number_of most word ≡ None → (n : ℕ) → n ≤ most → word ≡ decimal n → ⊥
no_decimal most word lt none n le is = grind (arith, number_of-decimal)
