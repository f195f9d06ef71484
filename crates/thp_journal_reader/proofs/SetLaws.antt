-- Sets read run by run: what was read, with what the rest says, is what the whole text says.
use Rattle.std.proofs.Common.{◌≡◌, ℕ, ◌+◌, ◌-◌, ◌≤◌, Bool, true, false, ◌||◌, ◌&&◌, nat_eq, nat_lt, List, [], ◌∷◌, ◌++◌, length, set, Option, Some, None, Result, Ok, Err, refl, sym, ap, ◌∙◌, append_assoc, arith, nat_le, is_some, append-nil}
use Rattle.std.specs.List.{list_any}
use Rattle.std.proofs.Math.Bool.{or_comm}
use Rattle.std.proofs.lemmas.Bool.{cases_lt, eq-eqb, ne_eqb, le-leb, lt-leb, le-ltb, lt-ltb}
use Rattle.std.proofs.lemmas.List.Folds.{list_any-append}
use Rattle.thp_history.specs.Prelude.{covers, has, set_of, get_or-set_of, length-set_of}
use Rattle.thp_history.proofs.WordLemmas.{set_of-ext, set_set_of}
use Rattle.thp_script.specs.declared.fault.TextKind.{TextKind}
use Rattle.thp_script.specs.declared.fault.TextKind.TheVariants.{BadSet}
use Rattle.thp_script.specs.Prelude.{◌>>=◌, Text, pieces_at, pieces_left}
use Rattle.thp_script.proofs.PieceLaws.{has_first}
use Rattle.thp_journal_reader.specs.Prelude.{ReadRun, covers_number, run_from, run_of, runs_of, set_of_runs, set_with}

-- ---- sets with one more run

-- a run of one covers its number alone
one_covers : (first last i : ℕ) → first ≡ last → nat_eq i first ≡ (nat_le first i && nat_le i last)
one_covers first last i same = grind (arith, cases_lt, ne_eqb, lt-leb, le-leb, eq-eqb)

-- a longer one covers as many numbers as lie between its ends
ends_alike : (first last i : ℕ) → first ≤ last → nat_lt i (first + (last - first + 1)) ≡ nat_le i last
ends_alike first last i order = grind (arith, cases_lt, le-ltb, lt-leb, lt-ltb, le-leb)

-- a set with a run of one put in
pub put_one : (t : List Bool) (run : ReadRun) → length t ≡ 512 → run.0 ≡ run.1 → run.1 ≤ 511 → set t run.0 true ≡ set_of (λ i. has t i || covers_number i run)
put_one t run whole same bound = grind (arith, set_set_of, set_of-ext, nat_eq, or_comm, one_covers)

-- a set with a longer run put in
pub put_more : (t u : List Bool) (run : ReadRun) → run.0 ≤ run.1 → u ≡ set_of (covers run.0 (run.1 - run.0 + 1)) → set_of (λ i. has t i || has u i) ≡ set_of (λ i. has t i || covers_number i run)
put_more t u run order is =
    set_of-ext (λ (i : ℕ). has t i || has u i) (λ (i : ℕ). has t i || covers_number i run)
    (λ i below.
    ap (λ (b : Bool). has t i || b)
    (ap (λ (v : List Bool). has v i) is ∙ get_or-set_of (covers run.0 (run.1 - run.0 + 1)) i below ∙ ap (λ (b : Bool). nat_le run.0 i && b) (ends_alike run.0 run.1 i order)))

last_or : (b : Bool) → (b || false) ≡ b
last_or x = grind arith

-- the set of some runs and one more
pub set_with_push : (runs : List ReadRun) (run : ReadRun) → set_of (λ i. has (set_with runs) i || covers_number i run) ≡ set_with (runs ++ run ∷ [])
unfolding set_with
set_with_push runs run =
    set_of-ext (λ (i : ℕ). has (set_of (λ j. list_any (covers_number j) runs)) i || covers_number i run) (λ (i : ℕ). list_any (covers_number i) (runs ++ run ∷ []))
    (λ i below.
    ap (λ (b : Bool). b || covers_number i run) (get_or-set_of (λ j. list_any (covers_number j) runs) i below)
    ∙ sym (list_any-append (covers_number i) runs (run ∷ []) ∙ ap (λ (b : Bool). list_any (covers_number i) runs || b) (last_or (covers_number i run))))

pub length-set_with : (runs : List ReadRun) → length (set_with runs) ≡ 512
unfolding set_with
length-set_with runs = length-set_of (λ i. list_any (covers_number i) runs)

-- the set of no run
pub set_with_none : (t : List Bool) → t ≡ set_of (λ i. false) → t ≡ set_with []
unfolding set_with
set_with_none t is = is

-- ---- runs one after another

abbrev pub Read : Type 0
Read = Result (List ReadRun) TextKind

-- the runs read before, in front of those that are still read
abbrev pub behind : List ReadRun → Read → Read
behind before read = read >>= λ runs. Ok (before ++ runs)

behind-behind : (before more : List ReadRun) (read : Read) → behind before (behind more read) ≡ behind (before ++ more) read
behind-behind before more x = grind (arith, append_assoc)

behind-nothing : (read : Read) → behind [] read ≡ read
behind-nothing x = grind arith

-- the first of the pieces that are left, where it is a run, and where it is none
run_says : (least : ℕ) (pieces left : List Text) (piece : Text) (run : ReadRun) → pieces ≡ piece ∷ left → Ok run ≡ run_from least piece → runs_of least pieces ≡ behind (run ∷ []) (runs_of (run.1 + 2) left)
run_says least pieces left piece run e says = rw (e, ← says) refl

run_fails : (least : ℕ) (pieces left : List Text) (piece : Text) (kind : TextKind) → pieces ≡ piece ∷ left → Err kind ≡ run_from least piece → runs_of least pieces ≡ Err kind
run_fails least pieces left piece kind e says = rw (e, ← says) refl

-- the whole text says the runs read so far, and then what the rest says
abbrev pub IsReadTo : Text → List ReadRun → ℕ → Text → Type 0
IsReadTo text runs least rest = runs_of 0 (pieces_at 44 text) ≡ behind runs (runs_of least (pieces_at 44 rest))

pub read_none : (text : Text) → IsReadTo text [] 0 text
read_none text = sym (behind-nothing (runs_of 0 (pieces_at 44 text)))

-- the runs so far and one more, with what is left behind it
read_more : (text : Text) (runs : List ReadRun) (least : ℕ) (rest piece : Text) (left : List Text) (run : ReadRun) → IsReadTo text runs least rest → pieces_at 44 rest ≡ piece ∷ left → Ok run ≡ run_from least piece
    → runs_of 0 (pieces_at 44 text) ≡ behind (runs ++ run ∷ []) (runs_of (run.1 + 2) left)
read_more text runs least rest piece left run so-far e says =
    so-far ∙ rw (run_says least (pieces_at 44 rest) left piece run e says) (behind-behind runs (run ∷ []) (runs_of (run.1 + 2) left))

pub read_run_more : (text : Text) (runs : List ReadRun) (least : ℕ) (rest piece after : Text) (run : ReadRun) → IsReadTo text runs least rest → pieces_at 44 rest ≡ piece ∷ pieces_at 44 after → Ok run ≡ run_from least piece
    → IsReadTo text (runs ++ run ∷ []) (run.1 + 2) after
read_run_more text runs least rest piece after run so-far e says = read_more text runs least rest piece (pieces_at 44 after) run so-far e says

-- ---- the set of the whole text

pub runs_fail : (text : Text) (runs : List ReadRun) (least : ℕ) (rest piece : Text) (left : List Text) (kind : TextKind) → IsReadTo text runs least rest → pieces_at 44 rest ≡ piece ∷ left → Err kind ≡ run_from least piece
    → Err kind ≡ set_of_runs text
runs_fail text runs least rest piece left kind so-far e says = rw (so-far, run_fails least (pieces_at 44 rest) left piece kind e says) refl

pub runs_end : (text : Text) (runs : List ReadRun) (least : ℕ) (rest piece : Text) (run : ReadRun) (t : List Bool) → IsReadTo text runs least rest → pieces_at 44 rest ≡ piece ∷ [] → Ok run ≡ run_from least piece → t ≡ set_with (runs ++ run ∷ [])
    → Ok t ≡ set_of_runs text
runs_end text runs least rest piece run t so-far e says is = grind (arith, read_more, append-nil)

-- ---- one run

-- more than two numbers are no run
pub three_numbers : (text behind first last : Text) (left more : Option Text) → pieces_at 45 text ≡ first ∷ pieces_left 45 left → left ≡ Some behind → pieces_at 45 behind ≡ last ∷ pieces_left 45 more → is_some more ≡ true
    → Err BadSet ≡ run_of text
unfolding run_of
three_numbers text behind first last left None e is f some = absurd cc
three_numbers text behind first last left (Some third) e is f some =
    let g = has_first 45 third in
    rw (e, is, f, g.2) refl
