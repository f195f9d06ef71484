-- From the values of a parse to the line that they make.
use Rattle.std.proofs.Common.{◌≡◌, ◌∙◌, ◌<◌, ◌≤◌, ◌^◌, ap, ℕ, true, false, List, [], ◌∷◌, map, Option, Some, None, Result, Ok, sym, option_map, pos, slice_get, Bor, bytes_eq}
use Rattle.std.specs.List.{list_any}
use Rattle.std.specs.Str.Parse.{ParsesUnsigned}
use Rattle.clap.specs.Lexer.{without_minus}
use Rattle.clap.specs.Matches.{ReadsOne, first_value, one_text}
use Rattle.clap.specs.Values.{Accepts, read_as, reading_of}
use Rattle.clap.specs.declared.builder.value_parser.ValueParser.{ValueParser}
use Rattle.clap.specs.declared.builder.value_parser.ValueParser.TheVariants.{Names, Signed}
use Rattle.clap.specs.declared.parser.matches.Found.{Found}
use Rattle.clap.proofs.CallerReads.{signed_reads}
use Rattle.clap.proofs.WalkLemmas.{list_any-map}
use Rattle.thp_cli.specs.Prelude.{WritesNumber, HasValue}

head_of_map : {A B : Type 0} (f : A → B) (xs : List A) (y : B) (ys : List B) → map f xs ≡ y ∷ ys → option_map f (slice_get xs 0) ≡ Some y
head_of_map f [] y ys e = absurd cc
head_of_map f (x ∷ xs) y ys e = ap (λ l. slice_get l 0) e

-- the value, as it stands in the words
pub first_value-value : (found : Found) (id : List ℕ) (q : ValueParser) (h : HasValue found id q) → first_value found id ≡ Some h.value
first_value-value found id q h = rw h.is_entry (head_of_map (λ s. s.now) h.entry.vals.items h.value h.others h.values)

-- the value, as the typed getters read it
pub one_text-value : (found : Found) (id : List ℕ) (q : ValueParser) (h : HasValue found id q) → one_text found id ≡ Some (read_as (reading_of q) h.value)
one_text-value found id q h =
    let first = head_of_map (λ s. s.now) h.entry.vals.items h.value h.others h.values in
    rw (h.is_entry, h.read) (read-first (slice_get h.entry.vals.items 0) first)
  where
    read-first : (o : Option (Bor (List ℕ))) → option_map (λ s. s.now) o ≡ Some h.value → option_map (λ s. read_as (reading_of q) s.now) o ≡ Some (read_as (reading_of q) h.value)
    read-first None e = absurd cc
    read-first (Some s) e = ap (option_map (read_as (reading_of q))) e

-- what a getter of whole numbers reads of a value in a range above zero: a number of the range, which the text writes
pub number_read : (E : Type 0) (G : List ℕ → Result ℕ E → Type 0) (low high : ℕ) (found : Found) (id : List ℕ) (r : Option ℕ)
    → ((text : List ℕ) → one_text found id ≡ Some text → ReadsOne G text r) → ((u : List ℕ) (x : Result ℕ E) → G u x → ParsesUnsigned 32 10 u x)
    → high < 2 ^ 32 → HasValue found id (Signed (pos low) (pos high)) → (n : ℕ) × (r ≡ Some n) × (low ≤ n) × (n ≤ high) × WritesNumber (one_text found id) n
number_read E G low high found id r gets only fits h =
    let reads = gets (without_minus h.value) (one_text-value found id (Signed (pos low) (pos high)) h) in
    let got = signed_reads E G 32 low high h.value r reads only fits h.passed in
    let parsed : ParsesUnsigned {E = E} 32 10 (without_minus h.value) (Ok got.0) = only (without_minus h.value) (Ok got.0) (rw got.1 at reads) in
    (got.0, got.1, got.2, got.3, (without_minus h.value, one_text-value found id (Signed (pos low) (pos high)) h, parsed.0.0, sym parsed.1))

-- a value that is one of the names
pub one_of_names : (names : Bor (List (Bor (List ℕ)))) (all : List (List ℕ)) (value : List ℕ) → map (λ s. s.now) names.now ≡ all → Accepts false (Names names) value → list_any (λ s. bytes_eq s value) all ≡ true
one_of_names names all value is passed =
    let same : list_any (λ s. bytes_eq s value) (map (λ s. s.now) names.now) ≡ true = sym (list_any-map (λ s. bytes_eq s value) (λ s. s.now) names.now) ∙ passed in
    rw is at same
