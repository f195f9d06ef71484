-- Maximal runs of a set, and the text of runs.
use Rattle.std.proofs.Common.{◌≡◌, ℕ, zero, suc, ◌+◌, ◌-◌, ◌<◌, ◌≤◌, Bool, true, false, cond, List, [], ◌∷◌, ◌++◌, length, drop, map, get_or, refl, ap, sym, ◌∙◌, arith, nat_eq, eq-eqb, ne_eqb, append_assoc, add-one}
use Rattle.std.specs.Prelude.{⊤}
use Rattle.std.proofs.Math.Seq.{drop-cons}
use Rattle.std.specs.List.{join_with_byte}
use Rattle.std.proofs.lemmas.Bool.{cases_lt}
use Rattle.std.proofs.lemmas.List.{drop_all}
use Rattle.thp_journal_writer.specs.Prelude.{Run, with_number, runs_from, run_text, runs_text, set_text}

-- the first run, where there is one, begins at i or behind it
abbrev pub BeginsFrom : ℕ → List Run → Type 0
BeginsFrom i [] = ⊤
BeginsFrom i (run ∷ runs) = i ≤ run.0

later : (i j : ℕ) (runs : List Run) → i ≤ j → BeginsFrom j runs → BeginsFrom i runs
later i j x h b = grind arith

-- a number in front of runs of greater numbers comes first
with_number-first : (i : ℕ) (runs : List Run) → BeginsFrom i (with_number i runs)
with_number-first i x = grind (arith, nat_eq)

-- the runs of truths from i on begin there or later
runs_from-first : (i : ℕ) (truths : List Bool) → BeginsFrom i (runs_from i truths)
runs_from-first i [] = tt
runs_from-first i (true ∷ truths) = with_number-first i (runs_from (i + 1) truths)
runs_from-first i (false ∷ truths) = later i (i + 1) (runs_from (i + 1) truths) (omega arith) (runs_from-first (i + 1) truths)

-- a number that no run follows at once is a run of its own
with_number-alone : (i : ℕ) (runs : List Run) → BeginsFrom (i + 2) runs → with_number i runs ≡ (i, i) ∷ runs
with_number-alone i x h = grind (arith, ne_eqb)

-- a number joins the run that follows at once
with_number-joins : (i last : ℕ) (runs : List Run) → with_number i ((i + 1, last) ∷ runs) ≡ (i, last) ∷ runs
with_number-joins i last runs = ap (λ b. cond b ((i, last) ∷ runs) ((i, i) ∷ (i + 1, last) ∷ runs)) (eq-eqb (i + 1) (i + 1) refl)

-- the truth at i, and those behind it
at_place : (set : List Bool) (i : ℕ) (b : Bool) → i < length set → get_or set i false ≡ b → drop i set ≡ b ∷ drop (i + 1) set
at_place set i b h e = drop-cons set i false h ∙ ap (λ x. x ∷ drop (suc i) set) e ∙ ap (λ k. b ∷ drop k set) (sym (add-one i))

-- numbers that aren't in the set are passed over
pub pass_over : (set : List Bool) (n i : ℕ) → i + n ≤ length set → ((k : ℕ) → i ≤ k → k < i + n → get_or set k false ≡ false) →
    runs_from i (drop i set) ≡ runs_from (i + n) (drop (i + n) set)
pass_over set zero i h f = ap (λ k. runs_from k (drop k set)) (omega arith)
pass_over set (suc n) i h f =
    ap (λ truths. runs_from i truths) (at_place set i false (omega arith) (f i (omega arith) (omega arith)))
    ∙ pass_over set n (i + 1) (omega arith) (λ k low high. f k (omega arith) (omega arith))
    ∙ ap (λ k. runs_from k (drop k set)) (omega arith)

-- where i isn't in the set, no run begins there
begins_after : (set : List Bool) (i : ℕ) → (i < length set → get_or set i false ≡ false) → BeginsFrom (i + 1) (runs_from i (drop i set))
begins_after set i f = grind (arith, cases_lt, at_place, runs_from-first, drop_all)

-- numbers in a row that are in the set, up to one that isn't, are a run
one_run_of : (set : List Bool) (n a : ℕ) → a + suc n ≤ length set → ((k : ℕ) → a ≤ k → k < a + suc n → get_or set k false ≡ true) →
    (a + suc n < length set → get_or set (a + suc n) false ≡ false) → runs_from a (drop a set) ≡ (a, a + n) ∷ runs_from (a + suc n) (drop (a + suc n) set)
one_run_of set zero a h f g =
    let next : a + suc zero ≡ a + 1 = omega arith in
    ap (λ truths. runs_from a truths) (at_place set a true (omega arith) (f a (omega arith) (omega arith)))
    ∙ with_number-alone a (runs_from (a + 1) (drop (a + 1) set)) (later (a + 2) (a + 1 + 1) (runs_from (a + 1) (drop (a + 1) set)) (omega arith) (begins_after set (a + 1) g))
    ∙ ap (λ k. (a, k) ∷ runs_from (a + 1) (drop (a + 1) set)) (omega arith)
    ∙ ap (λ k. (a, a + zero) ∷ runs_from k (drop k set)) (sym next)
one_run_of set (suc n) a h f g =
    let next : a + 1 + suc n ≡ a + suc (suc n) = omega arith in
    ap (λ truths. runs_from a truths) (at_place set a true (omega arith) (f a (omega arith) (omega arith)))
    ∙ ap (λ runs. with_number a runs) (one_run_of set n (a + 1) (omega arith) (λ k low high. f k (omega arith) (omega arith)) (λ below. ap (λ k. get_or set k false) next ∙ g (omega arith)))
    ∙ with_number-joins a (a + 1 + n) (runs_from (a + 1 + suc n) (drop (a + 1 + suc n) set))
    ∙ ap (λ k. (a, k) ∷ runs_from (a + 1 + suc n) (drop (a + 1 + suc n) set)) (omega arith)
    ∙ ap (λ k. (a, a + suc n) ∷ runs_from k (drop k set)) next

-- where no number from i on is in the set, there is no further run
pub no_run : (set : List Bool) (i : ℕ) → length set ≡ 512 → i ≤ 512 → ((k : ℕ) → i ≤ k → k < 512 → get_or set k false ≡ false) → runs_from i (drop i set) ≡ []
no_run set i e h f =
    let end : i + (512 - i) ≡ 512 = omega arith in
    pass_over set (512 - i) i (omega arith) (λ k low high. f k low (omega arith))
    ∙ ap (λ k. runs_from k (drop k set)) end
    ∙ ap (λ truths. runs_from 512 truths) (drop_all 512 set (omega arith))

-- the first number that is in the set and the first behind it that isn't are the bounds of the next run
pub next_run : (set : List Bool) (i first after : ℕ) → length set ≡ 512 → i ≤ first → first < after → after ≤ 512 →
    ((k : ℕ) → i ≤ k → k < first → get_or set k false ≡ false) → ((k : ℕ) → first ≤ k → k < after → get_or set k false ≡ true) →
    (after < 512 → get_or set after false ≡ false) → runs_from i (drop i set) ≡ (first, after - 1) ∷ runs_from (after - 1 + 1) (drop (after - 1 + 1) set)
next_run set i first after e low some high none all out =
    let n : ℕ = after - 1 - first in
    let to : i + (first - i) ≡ first = omega arith in
    let end : first + suc n ≡ after = omega arith in
    let last : first + n ≡ after - 1 = omega arith in
    let back : first + suc n ≡ after - 1 + 1 = omega arith in
    pass_over set (first - i) i (omega arith) (λ k l h. none k l (omega arith))
    ∙ ap (λ k. runs_from k (drop k set)) to
    ∙ one_run_of set n first (omega arith) (λ k l h. all k l (omega arith)) (λ below. ap (λ k. get_or set k false) end ∙ out (omega arith))
    ∙ ap (λ k. (first, k) ∷ runs_from (first + suc n) (drop (first + suc n) set)) last
    ∙ ap (λ k. (first, after - 1) ∷ runs_from k (drop k set)) back

-- a run of a number that is in the set isn't empty
pub run_ends_after : (set : List Bool) (first after : ℕ) → first < 512 → first ≤ after → get_or set first false ≡ true → (after < 512 → get_or set after false ≡ false) → first < after
run_ends_after set first after small low here out = grind (arith, cases_lt, get_or)

-- runs, joined by commas
abbrev pub joined : List Run → List ℕ
joined runs = join_with_byte 44 (map run_text runs)

-- the text of a set that has runs
pub set_text-runs : (set : List Bool) (run : Run) (runs : List Run) → runs_from 0 set ≡ run ∷ runs → set_text set ≡ joined (run ∷ runs)
unfolding set_text
set_text-runs set run runs e = ap runs_text e

-- the text of the empty set
pub set_text-none : (set : List Bool) → runs_from 0 set ≡ [] → set_text set ≡ 45 ∷ []
unfolding set_text
set_text-none set e = ap runs_text e

-- the empty set behind a text
pub none_after : (t : List ℕ) (set : List Bool) (after : ℕ) → runs_from 0 set ≡ [] → t ++ (45 ∷ after ∷ []) ≡ t ++ set_text set ++ after ∷ []
none_after t set after e = sym (append_assoc t (45 ∷ []) (after ∷ [])) ∙ ap (λ s. t ++ s ++ after ∷ []) (sym (set_text-none set e))
