-- Sets of subpages as text (this project's journal format).
use Rattle.std.specs.Prelude.{ℕ, ◌+◌, ◌==◌, Bool, true, false, List, [], ◌∷◌, ◌++◌, map, codes, if◌then◌else◌, decimal}
use Rattle.std.specs.List.{join_with_byte}

-- the first and the last of consecutive numbers
abbrev pub Run : Type 0
Run = ℕ × ℕ

-- i, before runs of greater numbers: it joins a run that begins with the next number
abbrev pub with_number : ℕ → List Run → List Run
with_number i [] = (i, i) ∷ []
with_number i (run ∷ runs) = if run.0 == i + 1 then (i, run.1) ∷ runs else (i, i) ∷ run ∷ runs

-- the maximal runs of the numbers whose value is true, in ascending order; the first value is that of i
abbrev pub runs_from : ℕ → List Bool → List Run
runs_from i [] = []
runs_from i (true ∷ truths) = with_number i (runs_from (i + 1) truths)
runs_from i (false ∷ truths) = runs_from (i + 1) truths

-- a run of one is its number, a longer one `FIRST-LAST`
abbrev pub run_text : Run → List ℕ
run_text run = if run.0 == run.1 then decimal run.0 else decimal run.0 ++ codes "-" ++ decimal run.1

-- runs, separated by commas (44); `-` if there is none
abbrev pub runs_text : List Run → List ℕ
runs_text [] = codes "-"
runs_text (run ∷ runs) = join_with_byte 44 (map run_text (run ∷ runs))

-- the text of a set: its maximal runs
unfoldable pub set_text : List Bool → List ℕ
set_text set = runs_text (runs_from 0 set)
