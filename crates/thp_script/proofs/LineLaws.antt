-- Lines of plain words: those whose words all read as something are printable and have no empty word.
use Rattle.std.proofs.Common.{◌≡◌, ◌⊎◌, ◌==◌, ◌<◌, ◌≤◌, ℕ, Bool, true, false, cond, List, [], ◌∷◌, length, Option, Some, Result, Ok, arith, ap, subst, refl, sym, All, nat_le, ok_or, bytes_eq}
use Rattle.std.specs.Char.{is_ascii_digit}
use Rattle.std.specs.List.{list_all, list_any, onto_first}
use Rattle.std.specs.Result.{result_unwrap_or}
use Rattle.std.proofs.lemmas.Bool.{and_from, and_parts, le-leb, leb-true, eqb-true, ne_eqb}
use Rattle.std.proofs.lemmas.List.Elements.{All-cons, All-head, All-nil, All-tail}
use Rattle.std.proofs.lemmas.Option.{cond_some}
use Rattle.std.proofs.lemmas.Slice.Eq.{bytes_eq-Decides}
use Rattle.thp_script.specs.Prelude.{TextKind, BadNumber, number_up_to, is_empty, is_printable, ◌>>=◌, Text, number_of, words_in_line}
use Rattle.thp_script.proofs.NumberLaws.{numeral_parts}
use Rattle.thp_script.proofs.PieceLaws.{has_first}

-- a word of printable characters, one at least
pub record IsPlain (word : Text) : Type 0 where
  pub printable : list_all is_printable word ≡ true
  pub some : is_empty word ≡ false

pub one_plain : (a : Text) → IsPlain a → All IsPlain (a ∷ [])
one_plain a h = All-cons IsPlain a [] h (All-nil IsPlain)

-- ---- readings that succeed

pub bind_ok : {A B : Type 0} (r : Result A TextKind) (f : A → Result B TextKind) (y : B) → (r >>= f) ≡ Ok y → (x : A) × (r ≡ Ok x) × (f x ≡ Ok y)
bind_ok x f y e = grind arith

-- what is read, where nothing is at fault
abbrev pub read : {A : Type 0} → A → Result A TextKind
read x = Ok x

pub ok_value : {A : Type 0} (x y : A) → read x ≡ read y → x ≡ y
ok_value x y e = ap (λ r. result_unwrap_or r x) e

-- the word is this one and its reading counts, or the others do
pub word_cases : {A : Type 0} (name word : Text) (reading others : Result A TextKind) (x : A) → cond (bytes_eq name word) reading others ≡ Ok x → ((name ≡ word) × (reading ≡ Ok x)) ⊎ (others ≡ Ok x)
word_cases {A} name word reading others x e = grind (arith, bytes_eq, bytes_eq-Decides)

pub plain_word : (name word : Text) → name ≡ word → IsPlain word → IsPlain name
plain_word name word is plain = subst (λ w. IsPlain w) (sym is) plain

-- ---- numbers

digit_printable : (b : ℕ) → is_ascii_digit b ≡ true → is_printable b ≡ true
digit_printable b digit = grind (arith, and_parts, nat_le, leb-true, and_from, le-leb)

digits_printable : (word : Text) → list_all is_ascii_digit word ≡ true → list_all is_printable word ≡ true
digits_printable [] digits = refl
digits_printable (b ∷ word) digits =
    let p = and_parts (is_ascii_digit b) (list_all is_ascii_digit word) digits in
    and_from (is_printable b) (list_all is_printable word) (digit_printable b p.0) (digits_printable word p.1)

not_empty : (word : Text) → 0 < length word → is_empty word ≡ false
not_empty word some = ne_eqb (length word) 0 (λ e. absurd (omega arith))

some_of_ok : (o : Option ℕ) (n : ℕ) → ok_or o BadNumber ≡ Ok n → o ≡ Some n
some_of_ok x n e = grind (arith, ok_value)

-- a word that is read as a number is plain, and the number is within its bound
pub number_read : (most n : ℕ) (word : Text) → number_up_to most word ≡ Ok n → IsPlain word × (n ≤ most)
unfolding number_of
number_read most n word e = grind (arith, cond_some, some_of_ok, and_parts, numeral_parts, leb-true, digits_printable, not_empty)

-- ---- what plain words say of the line

pub none_empty : (words : List Text) → All IsPlain words → list_any is_empty words ≡ false
none_empty [] plain = refl
none_empty (word ∷ words) plain = rw ((All-head IsPlain word words plain).some, none_empty words (All-tail IsPlain word words plain)) refl

pub pieces_printable : (line : Text) → All IsPlain (words_in_line line) → list_all is_printable line ≡ true
pieces_printable line plain = go line (λ k d lt. (plain k d lt).printable)
  where
    go : (text : Text) → All (λ (w : Text). list_all is_printable w ≡ true) (words_in_line text) → list_all is_printable text ≡ true
    go [] all = refl
    go (b ∷ text) all = by (b == 32) refl (has_first 32 text) (go text) all
      where
        by : (t : Bool) → (b == 32) ≡ t → (f : (first : Text) × (others : List Text) × (words_in_line text ≡ first ∷ others)) → (All (λ (w : Text). list_all is_printable w ≡ true) (words_in_line text) → list_all is_printable text ≡ true)
            → All (λ (w : Text). list_all is_printable w ≡ true) (cond t ([] ∷ words_in_line text) (onto_first b (words_in_line text))) → list_all is_printable (b ∷ text) ≡ true
        by true is f rest all =
            let space : b ≡ 32 = eqb-true b 32 is in
            and_from (is_printable b) (list_all is_printable text) (rw space refl) (rest (All-tail (λ (w : Text). list_all is_printable w ≡ true) [] (words_in_line text) all))
        by false is f rest all =
            let own : All (λ (w : Text). list_all is_printable w ≡ true) ((b ∷ f.0) ∷ f.1) = subst (λ (ws : List Text). All (λ (w : Text). list_all is_printable w ≡ true) (onto_first b ws)) f.2 all in
            let p = and_parts (is_printable b) (list_all is_printable f.0) (All-head (λ (w : Text). list_all is_printable w ≡ true) (b ∷ f.0) f.1 own) in
            and_from (is_printable b) (list_all is_printable text) p.0
            (rest (subst (λ (ws : List Text). All (λ (w : Text). list_all is_printable w ≡ true) ws) (sym f.2)
            (All-cons (λ (w : Text). list_all is_printable w ≡ true) f.0 f.1 p.1 (All-tail (λ (w : Text). list_all is_printable w ≡ true) (b ∷ f.0) f.1 own))))
