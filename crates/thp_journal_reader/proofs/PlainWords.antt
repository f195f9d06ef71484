-- Words that read as something are plain: each has a character, and all are printable.
use Rattle.std.proofs.Common.{◌≡◌, ◌==◌, ◌+◌, ◌<◌, ◌≤◌, ℕ, Bool, true, false, cond, List, [], ◌∷◌, length, Option, Result, Ok, arith, subst, refl, sym, codes, All, nat_le, ok_or, bytes_eq}
use Rattle.std.specs.Char.{is_ascii_lowercase}
use Rattle.std.specs.List.{list_all, onto_first}
use Rattle.std.proofs.lemmas.Bool.{and_from, and_parts, eqb-true, le-leb, leb-true, ne_eqb}
use Rattle.std.proofs.lemmas.List.Elements.{All-cons, All-head, All-nil, All-tail}
use Rattle.thp_history.specs.declared.events.Outcome.{Outcome}
use Rattle.thp_script.specs.declared.fault.TextKind.{TextKind}
use Rattle.thp_script.specs.declared.fault.TextKind.TheVariants.{BadNumber, BadSet}
use Rattle.thp_script.specs.Prelude.{number_up_to, is_empty, is_printable, Text, number_of, pieces_at}
use Rattle.thp_script.proofs.LineLaws.{IsPlain, bind_ok, number_read, ok_value, read, word_cases}
use Rattle.thp_script.proofs.PieceLaws.{has_first, HasFirst}
use Rattle.thp_journal_reader.specs.Prelude.{EventWord, Version, common_word, event_word, later_word, outcome_of, ReadRun, run_from, run_of, run_of_numbers, runs_of, set_of_runs, set_of_text, subpage_number}

-- ---- words that are looked up

-- the word is this one, of which P holds, or the others say that P holds of it
this_or : {A : Type 0} (P : Text → Type 0) (name word : Text) (reading others : Result A TextKind) (x : A) → cond (bytes_eq name word) reading others ≡ Ok x → P word → (others ≡ Ok x → P name) → P name
this_or y name word reading others x e p rest = grind (arith, word_cases)

-- the same of plain words
pub one_or : {A : Type 0} (name word : Text) (reading others : Result A TextKind) (x : A) → cond (bytes_eq name word) reading others ≡ Ok x → list_all is_printable word ≡ true → is_empty word ≡ false
    → (others ≡ Ok x → IsPlain name) → IsPlain name
one_or name word reading others x e printable some rest = this_or IsPlain name word reading others x e (record { printable = printable; some = some }) rest

pub outcome_plain : (word : Text) (outcome : Outcome) → outcome_of word ≡ Ok outcome → IsPlain word
unfolding outcome_of
outcome_plain word outcome e = grind (arith, one_or)

-- ---- words of events

-- a word of small letters, one at least
pub record IsOfLetters (word : Text) : Type 0 where
  pub letters : list_all is_ascii_lowercase word ≡ true
  pub some : is_empty word ≡ false

letters_or : {A : Type 0} (name word : Text) (reading others : Result A TextKind) (x : A) → cond (bytes_eq name word) reading others ≡ Ok x → list_all is_ascii_lowercase word ≡ true → is_empty word ≡ false
    → (others ≡ Ok x → IsOfLetters name) → IsOfLetters name
letters_or name word reading others x e letters some rest = this_or IsOfLetters name word reading others x e (record { letters = letters; some = some }) rest

common_letters : (name : Text) (word : EventWord) → common_word name ≡ Ok word → IsOfLetters name
unfolding common_word
common_letters name word e =
    letters_or name (codes "alloc") _ _ word e refl refl
    (λ e1. letters_or name (codes "mapwhole") _ _ word e1 refl refl
    (λ e2. letters_or name (codes "unmapwhole") _ _ word e2 refl refl
    (λ e3. letters_or name (codes "mapsub") _ _ word e3 refl refl
    (λ e4. letters_or name (codes "unmapsub") _ _ word e4 refl refl
    (λ e5. letters_or name (codes "splitpmd") _ _ word e5 refl refl
    (λ e6. letters_or name (codes "pin") _ _ word e6 refl refl
    (λ e7. letters_or name (codes "unpin") _ _ word e7 refl refl
    (λ e8. letters_or name (codes "taken") _ _ word e8 refl refl
    (λ e9. letters_or name (codes "split") _ _ word e9 refl refl
    (λ e10. letters_or name (codes "pinned") _ _ word e10 refl refl
    (λ e11. letters_or name (codes "back") _ _ word e11 refl refl
    (λ e12. letters_or name (codes "dropped") _ _ word e12 refl refl
    (λ e13. letters_or name (codes "close") _ _ word e13 refl refl
    (λ e14. absurd cc))))))))))))))

later_letters : (name : Text) (word : EventWord) → later_word name ≡ Ok word → IsOfLetters name
unfolding later_word
later_letters name word e = grind (arith, letters_or, common_letters)

pub event_word_letters : (v : Version) (name : Text) (word : EventWord) → event_word v name ≡ Ok word → IsOfLetters name
event_word_letters x name word e = grind (arith, common_letters, later_letters)

letter_printable : (b : ℕ) → is_ascii_lowercase b ≡ true → is_printable b ≡ true
letter_printable b letter = grind (arith, and_parts, nat_le, leb-true, and_from, le-leb)

letters_printable : (word : Text) → list_all is_ascii_lowercase word ≡ true → list_all is_printable word ≡ true
letters_printable [] letters = refl
letters_printable (b ∷ word) letters =
    let p = and_parts (is_ascii_lowercase b) (list_all is_ascii_lowercase word) letters in
    and_from (is_printable b) (list_all is_printable word) (letter_printable b p.0) (letters_printable word p.1)

-- letters aren't cut at a byte below them
pub letters_whole : (c : ℕ) (word : Text) → c < 97 → list_all is_ascii_lowercase word ≡ true → pieces_at c word ≡ word ∷ []
letters_whole c [] below letters = refl
letters_whole c (b ∷ word) below letters =
    let p = and_parts (is_ascii_lowercase b) (list_all is_ascii_lowercase word) letters in
    let q = and_parts (nat_le 97 b) (nat_le b 122) p.0 in
    let low : 97 ≤ b = leb-true 97 b q.0 in
    rw (letters_whole c word below p.1, ne_eqb b c (λ e. absurd (omega arith))) refl

pub event_word_plain : (v : Version) (name : Text) (word : EventWord) → event_word v name ≡ Ok word → IsPlain name
event_word_plain v name word e = grind (arith, event_word_letters, letters_printable)

-- ---- numbers

pub number_plain : (most n : ℕ) (word : Text) → number_up_to most word ≡ Ok n → IsPlain word
number_plain most n word e = (number_read most n word e).0

-- where it reads as a number, the fault that it would have doesn't matter
with_other_fault : (o : Option ℕ) (n : ℕ) → ok_or o BadSet ≡ Ok n → ok_or o BadNumber ≡ Ok n
with_other_fault x n e = grind (arith, read, ok_value)

subpage_plain : (n : ℕ) (word : Text) → subpage_number word ≡ Ok n → IsPlain word
subpage_plain n word e = number_plain 511 n word (with_other_fault (number_of 511 word) n e)

-- ---- sets

abbrev Printable : Text → Type 0
Printable text = list_all is_printable text ≡ true

-- printable pieces with a printable separator between them
joined_printable : (c : ℕ) → is_printable c ≡ true → (text : Text) → All Printable (pieces_at c text) → Printable text
joined_printable c separator [] all = refl
joined_printable c separator (b ∷ text) all = by (b == c) refl (has_first c text) (joined_printable c separator text) all
  where
    by : (t : Bool) → (b == c) ≡ t → (f : HasFirst (pieces_at c text)) → (All Printable (pieces_at c text) → Printable text) → All Printable (cond t ([] ∷ pieces_at c text) (onto_first b (pieces_at c text))) → Printable (b ∷ text)
    by true is f rest all =
        let same : b ≡ c = eqb-true b c is in
        and_from (is_printable b) (list_all is_printable text) (rw same separator) (rest (All-tail Printable [] (pieces_at c text) all))
    by false is f rest all =
        let own : All Printable ((b ∷ f.0) ∷ f.1) = subst (λ (ws : List Text). All Printable (onto_first b ws)) f.2 all in
        let p = and_parts (is_printable b) (list_all is_printable f.0) (All-head Printable (b ∷ f.0) f.1 own) in
        and_from (is_printable b) (list_all is_printable text) p.0
        (rest (subst (λ (ws : List Text). All Printable ws) (sym f.2) (All-cons Printable f.0 f.1 p.1 (All-tail Printable (b ∷ f.0) f.1 own))))

numbers_printable : (words : List Text) (run : ReadRun) → run_of_numbers words ≡ Ok run → All Printable words
numbers_printable x run e = grind (arith, bind_ok, All-cons, subpage_plain, All-nil)

run_printable : (text : Text) (run : ReadRun) → run_of text ≡ Ok run → Printable text
unfolding run_of
run_printable text run e = joined_printable 45 refl text (numbers_printable (pieces_at 45 text) run e)

run_from_printable : (least : ℕ) (text : Text) (run : ReadRun) → run_from least text ≡ Ok run → Printable text
unfolding run_from
run_from_printable least text run e = grind (arith, bind_ok, run_printable)

runs_printable : (least : ℕ) (texts : List Text) (runs : List ReadRun) → runs_of least texts ≡ Ok runs → All Printable texts
runs_printable least [] runs e = All-nil Printable
runs_printable least (text ∷ texts) runs e =
    let run = bind_ok (run_from least text) _ runs e in
    let more = bind_ok (runs_of (run.0.1 + 2) texts) _ runs run.2 in
    All-cons Printable text texts (run_from_printable least text run.0 run.1) (runs_printable (run.0.1 + 2) texts more.0 more.1)

-- nothing is no set
not_nothing : (text : Text) (t : List Bool) → set_of_runs text ≡ Ok t → is_empty text ≡ false
unfolding run_from run_of number_of
not_nothing [] t e = absurd cc
not_nothing (b ∷ text) t e = ne_eqb (length (b ∷ text)) 0 (λ (is : length (b ∷ text) ≡ 0). absurd (omega arith))

pub set_plain : (text : Text) (t : List Bool) → set_of_text text ≡ Ok t → IsPlain text
unfolding set_of_text
set_plain text t e =
    one_or text (codes "-") _ _ t e refl refl
    (λ f.
    let runs = bind_ok (runs_of 0 (pieces_at 44 text)) _ t f in
    record { printable = joined_printable 44 refl text (runs_printable 0 (pieces_at 44 text) runs.0 runs.1); some = not_nothing text t f })
