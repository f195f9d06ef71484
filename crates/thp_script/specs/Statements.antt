-- The meaning of a script's line, and its allowed positions (this project's script format).
use Rattle.std.specs.Prelude.{◌==◌, ◌≤◌, not, nat_lt, ℕ, zero, suc, Bool, true, false, ⊤, List, [], ◌∷◌, Option, Some, None, Result, Ok, Err, codes, if◌then◌else◌, bytes_eq}
use Rattle.std.specs.List.{list_all, list_any}
use Rattle.thp_script.specs.declared.fault.TextKind.{TextKind}
use Rattle.thp_script.specs.declared.fault.TextKind.TheVariants.{BadByte, BadWord, BadCount, BadNumber, BadOrder}
use Rattle.thp_script.specs.declared.settings.Settings.{Settings}
use Rattle.thp_script.specs.declared.statement.Statement.{Statement}
use Rattle.thp_script.specs.declared.statement.Statement.TheVariants.{Nothing, Section, Call}
use Rattle.thp_script.specs.Readings.{◌>>=◌}
use Rattle.thp_script.specs.Words.{Text, words_in_line}
use Rattle.thp_script.specs.Lines.{is_empty, is_printable}
use Rattle.thp_script.specs.Commands.{command_of, number_up_to, one_word, IsCommandFor}

-- `setup`, which is section 0
abbrev pub setup_of : List Text → Result Statement TextKind
setup_of [] = Ok (Section 0)
setup_of _ = Err BadCount

-- sections of workers are numbered from 1 on
abbrev pub section_of : ℕ → Result ℕ TextKind
section_of zero = Err BadNumber
section_of (suc k) = Ok (suc k)

-- the number of an existing worker
abbrev pub worker_number : Settings → Text → Result ℕ TextKind
worker_number s word = number_up_to s.workers word >>= section_of

-- `worker K`, after its first word
unfoldable pub worker_of : Settings → List Text → Result Statement TextKind
worker_of s words = do
  word ← one_word words
  k ← worker_number s word
  Ok (Section k)

abbrev pub call_statement : Settings → Text → List Text → Result Statement TextKind
call_statement s name words = command_of s name words >>= λ command. Ok (Call command)

-- the section of a worker, or a command
abbrev pub worker_or_call : Settings → Text → List Text → Result Statement TextKind
worker_or_call s name words =
    if bytes_eq name (codes "worker") then worker_of s words
    else call_statement s name words

-- a section line or a command, by its first word and the others
unfoldable pub section_or_call : Settings → Text → List Text → Result Statement TextKind
section_or_call s name words =
    if bytes_eq name (codes "setup") then setup_of words
    else worker_or_call s name words

abbrev pub by_words : Settings → List Text → Result Statement TextKind
by_words s [] = Err BadWord
by_words s (name ∷ words) = section_or_call s name words

-- an empty line, or one that begins with `#` (35)
abbrev pub says_nothing : Text → Bool
says_nothing [] = true
says_nothing (b ∷ _) = b == 35

-- the meaning of a whole line, regardless of its position; the errors are tested in their order
unfoldable pub statement_of : Settings → Text → Result Statement TextKind
statement_of s line =
    if not (list_all is_printable line) then Err BadByte
    else if says_nothing line then Ok Nothing
    else if list_any is_empty (words_in_line line) then Err BadWord
    else by_words s (words_in_line line)

-- The section before a line: none before the first section line, 0 for `setup`, K for `worker K`. Sections are in ascending
-- order, and each command is in one.
abbrev pub may_stand : Option ℕ → Statement → Bool
may_stand section Nothing = true
may_stand None (Section k) = true
may_stand (Some last) (Section k) = nat_lt last k
may_stand None (Call command) = false
may_stand (Some last) (Call command) = true

-- the section after the line
abbrev pub section_after : Option ℕ → Statement → Option ℕ
section_after section (Section k) = Some k
section_after section Nothing = section
section_after section (Call command) = section

-- the meaning of a whole line at its position
unfoldable pub statement_in : Settings → Option ℕ → Text → Result Statement TextKind
statement_in s section line = do
  statement ← statement_of s line
  if may_stand section statement then Ok statement else Err BadOrder

-- the section `setup`, or that of an existing worker
abbrev pub IsSectionFor : Settings → ℕ → Type 0
IsSectionFor s k = k ≤ s.workers

-- an existing section, or a command for an existing node
abbrev pub IsInRange : Settings → Statement → Type 0
IsInRange s Nothing = ⊤
IsInRange s (Section k) = IsSectionFor s k
IsInRange s (Call command) = IsCommandFor s.nodes command
