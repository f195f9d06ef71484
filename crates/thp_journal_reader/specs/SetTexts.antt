-- Sets of subpages from text: their maximal runs, in ascending order and separated by commas (this project's journal format).
use Rattle.std.specs.Prelude.{ℕ, ◌+◌, ◌&&◌, nat_le, nat_lt, Bool, List, [], ◌∷◌, Result, Ok, Err, codes, ok_or, if◌then◌else◌, bytes_eq}
use Rattle.std.specs.List.{list_any}
use Rattle.thp_history.specs.Prelude.{set_of}
use Rattle.thp_script.specs.declared.fault.TextKind.{TextKind}
use Rattle.thp_script.specs.declared.fault.TextKind.TheVariants.{BadSet}
use Rattle.thp_script.specs.Prelude.{◌>>=◌, Text, number_of, pieces_at}

-- the first and the last of consecutive numbers
abbrev pub ReadRun : Type 0
ReadRun = ℕ × ℕ

-- i is in the run
abbrev pub covers_number : ℕ → ReadRun → Bool
covers_number i run = nat_le run.0 i && nat_le i run.1

-- the set of the numbers in the runs
unfoldable pub set_with : List ReadRun → List Bool
set_with runs = set_of (λ i. list_any (covers_number i) runs)

-- the number of a subpage
abbrev pub subpage_number : Text → Result ℕ TextKind
subpage_number word = ok_or (number_of 511 word) BadSet

-- a run of one by its number
abbrev pub run_of_one : Text → Result ReadRun TextKind
run_of_one word = do
  number ← subpage_number word
  Ok (number, number)

-- a longer run by its first and its last
abbrev pub longer_run : Text → Text → Result ReadRun TextKind
longer_run first_word last_word = do
  first ← subpage_number first_word
  last ← subpage_number last_word
  if nat_lt first last then Ok (first, last) else Err BadSet

-- a run by its numbers, one or two
abbrev pub run_of_numbers : List Text → Result ReadRun TextKind
run_of_numbers (word ∷ []) = run_of_one word
run_of_numbers (first ∷ last ∷ []) = longer_run first last
run_of_numbers _ = Err BadSet

-- a run; a dash (45) separates its numbers
unfoldable pub run_of : Text → Result ReadRun TextKind
run_of text = run_of_numbers (pieces_at 45 text)

-- a run whose first number is not below this one
unfoldable pub run_from : ℕ → Text → Result ReadRun TextKind
run_from least text = do
  run ← run_of text
  if nat_le least run.0 then Ok run else Err BadSet

-- runs from this number on, each separated from the one before it by a gap
abbrev pub runs_of : ℕ → List Text → Result (List ReadRun) TextKind
runs_of least [] = Ok []
runs_of least (text ∷ texts) = do
  run ← run_from least text
  runs ← runs_of (run.1 + 2) texts
  Ok (run ∷ runs)

-- the set of the runs in a text, which are separated by commas (44)
abbrev pub set_of_runs : Text → Result (List Bool) TextKind
set_of_runs text = runs_of 0 (pieces_at 44 text) >>= λ runs. Ok (set_with runs)

-- the set in a text: `-` for the empty set, otherwise runs
unfoldable pub set_of_text : Text → Result (List Bool) TextKind
set_of_text text = if bytes_eq text (codes "-") then Ok (set_with []) else set_of_runs text
