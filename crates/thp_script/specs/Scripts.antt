-- Scripts as text: the commands of each section, or the first error (this project's script format).
use Rattle.std.specs.Prelude.{◌≡◌, ℕ, ◌+◌, ◌==◌, nat_lt, ⊤, All, List, [], ◌∷◌, ◌++◌, length, map, Option, Some, None, Result, Ok, Err, if◌then◌else◌}
use Rattle.std.specs.List.{range_with_len}
use Rattle.thp_script.specs.declared.fault.TextKind.{TextKind}
use Rattle.thp_script.specs.declared.fault.TextKind.TheVariants.{TooLong}
use Rattle.thp_script.specs.declared.fault.ReadFault.{ReadFault}
use Rattle.thp_script.specs.declared.fault.ReadFault.TheVariants.{Text as TextFault, OutOfMemory}
use Rattle.thp_script.specs.declared.script.Command.{Command}
use Rattle.thp_script.specs.declared.script.ScriptSections.{ScriptSections}
use Rattle.thp_script.specs.declared.settings.Settings.{Settings}
use Rattle.thp_script.specs.declared.statement.Statement.{Statement}
use Rattle.thp_script.specs.declared.statement.Statement.TheVariants.{Nothing, Section, Call}
use Rattle.thp_script.specs.Limits.{max_input}
use Rattle.thp_script.specs.Readings.{◌>>=◌}
use Rattle.thp_script.specs.Words.{Text, lines_of}
use Rattle.thp_script.specs.Commands.{IsCommandFor}
use Rattle.thp_script.specs.Lines.{fault_after}
use Rattle.thp_script.specs.Statements.{statement_in, section_after}

-- the line and the kind of an error
abbrev pub Fault : Type 0
Fault = ℕ × TextKind

-- a command, with the number of its section
abbrev pub Placed : Type 0
Placed = ℕ × Command

abbrev pub on_line : {A : Type 0} → ℕ → Result A TextKind → Result A Fault
on_line line (Ok x) = Ok x
on_line line (Err kind) = Err (line, kind)

-- the command of a line in its section, if it has one
abbrev pub placed : Option ℕ → Statement → List Placed
placed section Nothing = []
placed section (Section k) = []
placed None (Call command) = []
placed (Some k) (Call command) = (k, command) ∷ []

abbrev pub end_of : ℕ → Option TextKind → Result (List Placed) Fault
end_of line None = Ok []
end_of line (Some kind) = Err (line, kind)

-- the commands of the lines from number `line` on, which are in this section
unfoldable pub commands_from : Settings → ℕ → Option ℕ → List Text → Result (List Placed) Fault
commands_from s line section [] = Ok []
commands_from s line section (behind ∷ []) = end_of line (fault_after behind)
commands_from s line section (text ∷ next ∷ texts) = do
  statement ← on_line line (statement_in s section text)
  commands ← commands_from s (line + 1) (section_after section statement) (next ∷ texts)
  Ok (placed section statement ++ commands)

-- the commands of one section, in order
abbrev pub commands_in : ℕ → List Placed → List Command
commands_in k [] = []
commands_in k (p ∷ ps) = if p.0 == k then p.1 ∷ commands_in k ps else commands_in k ps

-- the script of these commands: section 0 is `setup`, and there is one section for each worker
unfoldable pub script_with : ℕ → List Placed → ScriptSections
script_with workers ps = record { setup = commands_in 0 ps; workers = map (λ k. commands_in k ps) (range_with_len 1 workers) }

-- the script in a text, or its first error
unfoldable pub script_of : Settings → Text → Result ScriptSections Fault
script_of s text =
    if nat_lt max_input (length text) then Err (0, TooLong)
    else (commands_from s 1 None (lines_of text) >>= λ ps. Ok (script_with s.workers ps))

-- an error of reading is the text's first, unless memory could not be allocated
abbrev pub ReportsFault : {A : Type 0} → Result A Fault → ReadFault → Type 0
ReportsFault read (TextFault line kind) = read ≡ Err (line, kind)
ReportsFault read OutOfMemory = ⊤

-- each command is for an existing node, and there is a section for each worker
pub record IsScriptFor (s : Settings) (script : ScriptSections) : Type 0 where
  pub setup_commands : All (IsCommandFor s.nodes) script.setup
  pub worker_commands : All (λ commands. All (IsCommandFor s.nodes) commands) script.workers
  pub sections : length script.workers ≡ s.workers
