-- Words of printable characters with no space in them, which a line of them gives back; numbers and names are such words.
use Rattle.std.proofs.Common.{◌≡◌, ◌==◌, ◌<◌, ◌≤◌, ◌^◌, ℕ, Bool, true, false, not, ◌&&◌, ◌||◌, List, [], ◌∷◌, length, refl, ap, sym, ◌∙◌, arith, nat_le, decimal, bytes_eq}
use Rattle.std.specs.Char.{is_ascii_digit}
use Rattle.std.specs.List.{list_all, list_any, join_with_byte}
use Rattle.std.proofs.lemmas.Bool.{and_parts, and_from, not_from_false, false_from_ne_true, ne_eqb, leb-true, le-leb}
use Rattle.std.proofs.lemmas.Fmt.{digits_decimal, decimal_nonempty}
use Rattle.std.proofs.lemmas.Slice.Eq.{bytes_eq-Decides}
use Rattle.thp_script.specs.Prelude.{is_empty, is_printable, Text, words_in_line}
use Rattle.thp_script.proofs.NumberLaws.{digits}
use Rattle.thp_laws.proofs.Splitting.{all_wider, is_without, joined, all_joined}

-- a printable character, and no space
abbrev pub is_solid : ℕ → Bool
is_solid b = nat_le 33 b && nat_le b 126

-- a word that a line can hold
abbrev pub is_plain : Text → Bool
is_plain word = not (is_empty word) && list_all is_solid word

-- between which bytes it lies
solid_range : (b : ℕ) → is_solid b ≡ true → (33 ≤ b) × (b ≤ 126)
solid_range b h = let t = and_parts _ _ h in (leb-true _ _ t.0, leb-true _ _ t.1)

-- a byte from 32 to 126
printable_range : (b : ℕ) → 32 ≤ b → b ≤ 126 → is_printable b ≡ true
printable_range b low high = and_from _ _ (le-leb 32 b low) (le-leb b 126 high)

-- what is printable and no space is printable
solid_printable : (b : ℕ) → is_solid b ≡ true → is_printable b ≡ true
solid_printable b h = let r = solid_range b h in printable_range b (omega arith) (omega arith)

-- and no space
no_space : (b : ℕ) → is_solid b ≡ true → not (b == 32) ≡ true
no_space b h = let r = solid_range b h in not_from_false _ (ne_eqb b 32 (λ e. omega arith))

-- a printable character is no line feed
no_feed : (b : ℕ) → is_printable b ≡ true → not (b == 10) ≡ true
no_feed b h = let t = and_parts _ _ h in let low : 32 ≤ b = leb-true _ _ t.0 in not_from_false _ (ne_eqb b 10 (λ e. omega arith))

-- its bytes are printable, and no spaces
pub plain_solid : (word : Text) → is_plain word ≡ true → list_all is_solid word ≡ true
plain_solid word h = (and_parts _ _ h).1

-- a plain word has no space
plain_apart : (word : Text) → is_plain word ≡ true → is_without 32 word ≡ true
plain_apart word h = all_wider is_solid (λ b. not (b == 32)) no_space word (plain_solid word h)

-- and is printable
plain_printable : (word : Text) → is_plain word ≡ true → list_all is_printable word ≡ true
plain_printable word h = all_wider is_solid is_printable solid_printable word (plain_solid word h)

-- a line of plain words has those words
pub words_back : (word : Text) (words : List Text) → list_all is_plain (word ∷ words) ≡ true → words_in_line (join_with_byte 32 (word ∷ words)) ≡ word ∷ words
words_back word words h = grind (arith, and_parts, joined, plain_apart, all_wider, is_without)

-- it is printable
pub line_printable : (words : List Text) → list_all is_plain words ≡ true → list_all is_printable (join_with_byte 32 words) ≡ true
line_printable words h = all_joined is_printable 32 words refl (all_wider is_plain (list_all is_printable) plain_printable words h)

-- and has no line feed
pub line_whole : (words : List Text) → list_all is_plain words ≡ true → is_without 10 (join_with_byte 32 words) ≡ true
line_whole words h = all_wider is_printable (λ b. not (b == 10)) no_feed (join_with_byte 32 words) (line_printable words h)

-- none of its words is empty
pub none_empty : (words : List Text) → list_all is_plain words ≡ true → list_any is_empty words ≡ false
none_empty [] h = refl
none_empty (word ∷ words) h = let t = and_parts _ _ h in let p = and_parts _ _ t.0 in go (is_empty word) p.0 (none_empty words t.1) where
  go : (b : Bool) → not b ≡ true → list_any is_empty words ≡ false → (b || list_any is_empty words) ≡ false
  go true e k = absurd cc
  go false e k = k

-- digits in decimal
pub decimal_digits : (n : ℕ) → n < 2 ^ 64 → list_all is_ascii_digit (decimal n) ≡ true
decimal_digits n lt = digits_decimal digits n lt

-- between which bytes a digit lies
digit_range : (b : ℕ) → is_ascii_digit b ≡ true → (48 ≤ b) × (b ≤ 57)
digit_range b h = let t = and_parts _ _ h in (leb-true _ _ t.0, leb-true _ _ t.1)

-- a digit is printable and no space
digit_solid : (b : ℕ) → is_ascii_digit b ≡ true → is_solid b ≡ true
digit_solid b h = let r = digit_range b h in and_from _ _ (le-leb 33 b (omega arith)) (le-leb b 126 (omega arith))

-- a word with a byte
some_byte : (word : Text) → 0 < length word → not (is_empty word) ≡ true
some_byte word lt = not_from_false _ (ne_eqb (length word) 0 (λ e. omega arith))

-- a number is a plain word
pub decimal_plain : (n : ℕ) → n < 2 ^ 64 → is_plain (decimal n) ≡ true
decimal_plain n lt = and_from _ _ (some_byte (decimal n) (decimal_nonempty n lt)) (all_wider is_ascii_digit is_solid digit_solid (decimal n) (decimal_digits n lt))

-- whose bytes are no others than digits
pub decimal_without : (c n : ℕ) → n < 2 ^ 64 → is_ascii_digit c ≡ false → is_without c (decimal n) ≡ true
decimal_without c n lt none = all_wider is_ascii_digit (λ b. not (b == c)) other (decimal n) (decimal_digits n lt) where
  other : (b : ℕ) → is_ascii_digit b ≡ true → not (b == c) ≡ true
  other b h = not_from_false _ (ne_eqb b c (λ (e : b ≡ c). let yes : is_ascii_digit c ≡ true = ap is_ascii_digit (sym e) ∙ h in let bad : true ≡ false = sym yes ∙ none in absurd cc))

-- a word with another byte isn't a number's
pub no_number : (n : ℕ) (word : Text) → n < 2 ^ 64 → list_all is_ascii_digit word ≡ false → bytes_eq (decimal n) word ≡ false
no_number n word lt none = false_from_ne_true _ (λ e. let same : decimal n ≡ word = (bytes_eq-Decides (decimal n) word).0 e in let bad : true ≡ false = sym (decimal_digits n lt) ∙ (ap (list_all is_ascii_digit) same ∙ none) in absurd cc)
