-- A set of subpages is read back from its text.
use Rattle.std.proofs.Common.{◌≡◌, ◌==◌, ◌<◌, ◌≤◌, ◌+◌, ℕ, zero, suc, Bool, true, false, cond, not, ◌||◌, List, [], ◌∷◌, ◌++◌, map, length, get_or, Result, Ok, append_assoc, refl, ap, sym, ◌∙◌, arith, codes, decimal, bytes_eq}
use Rattle.std.specs.Prelude.{⊤}
use Rattle.std.specs.List.{list_all, list_any, join_with_byte, range_with_len}
use Rattle.std.proofs.lemmas.Bool.{and_parts, and_from, or_cases, or_left, or_right, eqb-true, eqb-false, eq-eqb, ne_eqb, le-leb, leb-true, lt-ltb, false_from_ne_true, cases_eq, or_from, not_from_false}
use Rattle.std.proofs.Math.Bool.{or_assoc}
use Rattle.std.proofs.Math.Nat.{add-zero}
use Rattle.std.proofs.lemmas.Slice.Eq.{bytes_eq-Decides}
use Rattle.thp_history.specs.Prelude.{set_of}
use Rattle.thp_script.specs.declared.fault.TextKind.{TextKind}
use Rattle.thp_script.specs.Prelude.{◌>>=◌, is_empty, Text, number_of, pieces_at}
use Rattle.thp_script.proofs.NumberLaws.{number_of-decimal}
use Rattle.thp_journal_writer.specs.Prelude.{Run, with_number, runs_from, run_text, runs_text, set_text}
use Rattle.thp_journal_reader.specs.Prelude.{covers_number, set_with, run_of, run_from, runs_of, set_of_text}
use Rattle.thp_laws.proofs.Splitting.{all_append, all_joined, cut_once, is_without, joined, single}
use Rattle.thp_laws.proofs.PlainWords.{decimal_plain, decimal_without, is_plain, is_solid, plain_solid}

-- tests that hold of the same are the same
same_test : (a b : Bool) → (a ≡ true → b ≡ true) → (b ≡ true → a ≡ true) → a ≡ b
same_test x b f g = grind arith

-- ---- the runs of a set

-- runs ascend from `least` on, apart from one another, and end before `end`
AreApart : ℕ → ℕ → List Run → Type 0
AreApart least end [] = ⊤
AreApart least end (run ∷ runs) = (least ≤ run.0) × (run.0 ≤ run.1) × (run.1 < end) × AreApart (run.1 + 2) end runs

-- such runs ascend from a smaller number too
apart_from_less : (least more end : ℕ) (runs : List Run) → least ≤ more → AreApart more end runs → AreApart least end runs
unfolding AreApart
apart_from_less least more end [] le h = tt
apart_from_less least more end (run ∷ runs) le h = let low = h.0 in (omega arith, h.1, h.2, h.3)

-- with the number before them they ascend from that number
with_number_apart : (i end : ℕ) (runs : List Run) → i < end → AreApart (i + 1) end runs → AreApart i end (with_number i runs)
unfolding AreApart
with_number_apart i end x lt h = grind (arith, AreApart, eqb-false)

-- the runs of a set do
runs_apart : (i end : ℕ) (truths : List Bool) → i + length truths ≤ end → AreApart i end (runs_from i truths)
unfolding AreApart
runs_apart i end [] le = tt
runs_apart i end (true ∷ truths) le = with_number_apart i end (runs_from (i + 1) truths) (omega arith) (runs_apart (i + 1) end truths (omega arith))
runs_apart i end (false ∷ truths) le = apart_from_less i (i + 1) end (runs_from (i + 1) truths) (omega arith) (runs_apart (i + 1) end truths (omega arith))

-- what lies in a run, as a fact
covers_parts : (j : ℕ) (run : Run) → covers_number j run ≡ true → (run.0 ≤ j) × (j ≤ run.1)
covers_parts j run e = let t = and_parts _ _ e in (leb-true _ _ t.0, leb-true _ _ t.1)

-- and from that fact
covers_from : (j : ℕ) (run : Run) → run.0 ≤ j → j ≤ run.1 → covers_number j run ≡ true
covers_from j run low high = and_from _ _ (le-leb (run.0) j low) (le-leb j (run.1) high)

-- a run of one
one_number : (i j : ℕ) → covers_number j (i, i) ≡ (j == i)
one_number i j = grind (arith, same_test, covers_parts, eq-eqb, eqb-true, covers_from)

-- a run with the number right before it
longer_by_one : (i j : ℕ) (run : Run) → run.0 ≡ i + 1 → run.0 ≤ run.1 → covers_number j (i, run.1) ≡ ((j == i) || covers_number j run)
longer_by_one i j run next grows = grind (arith, same_test, covers_parts, cases_eq, or_left, eq-eqb, or_right, covers_from, or_cases, eqb-true)

-- i lies in the runs with i, and what else lies there lay there before
covers_with : (i j end : ℕ) (runs : List Run) → AreApart (i + 1) end runs → list_any (covers_number j) (with_number i runs) ≡ ((j == i) || list_any (covers_number j) runs)
unfolding AreApart
covers_with i j end x h = grind (arith, one_number, longer_by_one, eqb-true, or_assoc)

-- runs from a number on have no smaller one
none_below : (j least end : ℕ) (runs : List Run) → AreApart least end runs → j < least → list_any (covers_number j) runs ≡ false
unfolding AreApart
none_below j least end [] h lt = refl
none_below j least end (run ∷ runs) h lt =
    let low = h.0 in
    let grows = h.1 in
    or_from _ _ (false_from_ne_true _ (λ e. let p = covers_parts j run e in omega arith)) (none_below j (run.1 + 2) end runs h.3 (omega arith))

-- the number at place k of the truths lies in their runs where its truth is true
covers_at : (i j end k : ℕ) (truths : List Bool) → i + length truths ≤ end → j ≡ i + k → list_any (covers_number j) (runs_from i truths) ≡ get_or truths k false
covers_at i j end k [] le at = refl
covers_at i j end zero (true ∷ truths) le at = covers_with i j end (runs_from (i + 1) truths) (runs_apart (i + 1) end truths (omega arith)) ∙ or_left (j == i) _ (eq-eqb j i (omega arith))
covers_at i j end (suc k) (true ∷ truths) le at =
    covers_with i j end (runs_from (i + 1) truths) (runs_apart (i + 1) end truths (omega arith))
    ∙ ap (λ b. b || list_any (covers_number j) (runs_from (i + 1) truths)) (ne_eqb j i (λ e. omega arith))
    ∙ covers_at (i + 1) j end k truths (omega arith) (omega arith)
covers_at i j end zero (false ∷ truths) le at = none_below j (i + 1) end (runs_from (i + 1) truths) (runs_apart (i + 1) end truths (omega arith)) (omega arith)
covers_at i j end (suc k) (false ∷ truths) le at = covers_at (i + 1) j end k truths (omega arith) (omega arith)

-- a list is what its elements' test says, place by place
by_places : (test : ℕ → Bool) (i : ℕ) (truths : List Bool) → ((k : ℕ) → k < length truths → test (i + k) ≡ get_or truths k false) → map test (range_with_len i (length truths)) ≡ truths
by_places test i [] f = refl
by_places test i (b ∷ truths) f =
    let first : test i ≡ b = ap test (sym (add-zero i)) ∙ f 0 (omega arith) in
    let tail : map test (range_with_len (i + 1) (length truths)) ≡ truths = by_places test (i + 1) truths (λ k lt. ap test (place i k) ∙ f (suc k) (omega arith)) in
    cc where
      place : (i k : ℕ) → i + 1 + k ≡ i + suc k
      place i k = omega arith

-- the set that the runs of a set make is that set
pub set_of_its_runs : (set : List Bool) → length set ≡ 512 → set_with (runs_from 0 set) ≡ set
unfolding set_with set_of
set_of_its_runs set full =
    let test : ℕ → Bool = λ i. list_any (covers_number i) (runs_from 0 set) in
    let back : map test (range_with_len 0 (length set)) ≡ set = by_places test 0 set (λ k lt. covers_at 0 (0 + k) (length set) k set (omega arith) refl) in
    rw full at back

-- ---- the texts of runs

-- what is read, where nothing is at fault
ok_run : Run → Result Run TextKind
ok_run run = Ok run

-- one run, with numbers of subpages
run_back : (run : Run) → run.0 ≤ run.1 → run.1 < 512 → run_of (run_text run) ≡ Ok run
unfolding run_of ok_run
run_back run grows lt = grind (arith, number_of-decimal, lt-ltb, eqb-true, single, decimal_without, ok_run, eqb-false, append_assoc, cut_once)

-- runs, ascending and apart
runs_back : (least : ℕ) (runs : List Run) → AreApart least 512 runs → runs_of least (map run_text runs) ≡ Ok runs
unfolding AreApart run_from
runs_back least [] h = refl
runs_back least (run ∷ runs) h =
    rw (run_back run h.1 h.2, le-leb least run.0 h.0, runs_back (run.1 + 2) runs h.3) refl

-- the text of a run has digits and a dash
run_text_of : (test : ℕ → Bool) (run : Run) → ((n : ℕ) → n < 512 → list_all test (decimal n) ≡ true) → test 45 ≡ true → run.0 ≤ run.1 → run.1 < 512 → list_all test (run_text run) ≡ true
run_text_of test run numbers dash grows lt = grind (arith, append_assoc, all_append, and_from)

-- the texts of runs likewise
run_texts_of : (test : ℕ → Bool) (least : ℕ) (runs : List Run) → ((n : ℕ) → n < 512 → list_all test (decimal n) ≡ true) → test 45 ≡ true → AreApart least 512 runs → list_all (list_all test) (map run_text runs) ≡ true
unfolding AreApart
run_texts_of test least [] numbers dash h = refl
run_texts_of test least (run ∷ runs) numbers dash h = and_from _ _ (run_text_of test run numbers dash h.1 h.2) (run_texts_of test (run.1 + 2) runs numbers dash h.3)

-- ---- the text of a set

-- a dash alone is no text of runs
no_runs : (runs : List Run) → runs_of 0 (pieces_at 44 (codes "-")) ≡ Ok runs → ⊥
unfolding run_from run_of number_of
no_runs runs e = cc

-- runs are read back from their text
text_of_runs_back : (runs : List Run) → AreApart 0 512 runs → set_of_text (runs_text runs) ≡ Ok (set_with runs)
unfolding set_of_text
text_of_runs_back [] h = refl
text_of_runs_back (run ∷ runs) h =
    let apart : list_all (is_without 44) (map run_text (run ∷ runs)) ≡ true = run_texts_of (λ b. not (b == 44)) 0 (run ∷ runs) (λ n lt. decimal_without 44 n (omega arith) refl) refl h in
    let t = and_parts _ _ apart in
    let text : Text = join_with_byte 44 (map run_text (run ∷ runs)) in
    let pieces : pieces_at 44 text ≡ map run_text (run ∷ runs) = joined 44 (run_text run) (map run_text runs) t.0 t.1 in
    let read : runs_of 0 (pieces_at 44 text) ≡ Ok (run ∷ runs) = ap (runs_of 0) pieces ∙ runs_back 0 (run ∷ runs) h in
    let some : bytes_eq text (codes "-") ≡ false = false_from_ne_true _ (λ e. let same : text ≡ codes "-" = (bytes_eq-Decides text (codes "-")).0 e in no_runs (run ∷ runs) (ap (λ w. runs_of 0 (pieces_at 44 w)) (sym same) ∙ read)) in
    ap (λ b. cond b (Ok (set_with [])) (runs_of 0 (pieces_at 44 text) >>= λ rs. Ok (set_with rs))) some
    ∙ ap (λ r. r >>= λ rs. Ok (set_with rs)) read

-- a set's text is read as that set
pub set_back : (set : List Bool) → length set ≡ 512 → set_of_text (set_text set) ≡ Ok set
unfolding set_text
set_back set full = grind (arith, text_of_runs_back, runs_apart, set_of_its_runs)

-- the digits of a subpage's number
solid_digits : (n : ℕ) → n < 512 → list_all is_solid (decimal n) ≡ true
solid_digits n lt = plain_solid (decimal n) (decimal_plain n (omega arith))

-- a text that begins with a word that has a byte has one
some_of_some : (text rest : Text) → not (is_empty text) ≡ true → not (is_empty (text ++ rest)) ≡ true
some_of_some [] rest some = absurd cc
some_of_some (b ∷ text) rest some = not_from_false _ (ne_eqb (suc (length (text ++ rest))) 0 (λ e. omega arith))

-- the text of a run has a byte
run_some : (run : Run) → run.1 < 512 → run.0 ≤ run.1 → not (is_empty (run_text run)) ≡ true
run_some run lt grows = go (run.0 == run.1) where
  first : not (is_empty (decimal run.0)) ≡ true
  first = (and_parts _ _ (decimal_plain run.0 (omega arith))).0

  go : (b : Bool) → not (is_empty (cond b (decimal run.0) (decimal run.0 ++ codes "-" ++ decimal run.1))) ≡ true
  go true = first
  go false = ap (λ text. not (is_empty text)) (append_assoc (decimal run.0) (codes "-") (decimal run.1)) ∙ some_of_some (decimal run.0) (codes "-" ++ decimal run.1) first

-- runs leave no empty text
joined_some : (run : Run) (runs : List Run) → AreApart 0 512 (run ∷ runs) → not (is_empty (join_with_byte 44 (map run_text (run ∷ runs)))) ≡ true
unfolding AreApart
joined_some run x h = grind (arith, run_some, some_of_some)

-- the text of runs is a plain word
runs_plain : (runs : List Run) → AreApart 0 512 runs → is_plain (runs_text runs) ≡ true
runs_plain [] h = refl
runs_plain (run ∷ runs) h =
    and_from _ _ (joined_some run runs h) (all_joined is_solid 44 (map run_text (run ∷ runs)) refl (run_texts_of is_solid 0 (run ∷ runs) solid_digits refl h))

-- and a plain word
pub set_plain : (set : List Bool) → length set ≡ 512 → is_plain (set_text set) ≡ true
unfolding set_text
set_plain set full = runs_plain (runs_from 0 set) (runs_apart 0 512 set (omega arith))
