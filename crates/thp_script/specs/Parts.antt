-- Scripts whose text arrives in parts (this project's script format).
use Rattle.std.specs.Prelude.{◌≡◌, ℕ, ◌+◌, All, IfSome, List, [], ◌∷◌, ◌++◌, length, get_or, set, Option, Result, Ok}
use Rattle.thp_script.specs.declared.script.Command.{Command}
use Rattle.thp_script.specs.declared.script.ScriptSections.{ScriptSections}
use Rattle.thp_script.specs.declared.settings.Settings.{Settings}
use Rattle.thp_script.specs.Commands.{IsCommandFor}
use Rattle.thp_script.specs.Limits.{max_input}
use Rattle.thp_script.specs.Readings.{◌>>=◌}
use Rattle.thp_script.specs.Scripts.{Fault, Placed, commands_from}
use Rattle.thp_script.specs.Statements.{IsSectionFor}
use Rattle.thp_script.specs.TextInParts.{result_after, TextSoFar}
use Rattle.thp_script.specs.Words.{Text, lines_of}

-- The state of reading a script: the commands of each section, `setup` first; the section of the last line; and the text read so
-- far.
pub record ReadSoFar : Type 0 where
  pub settings : Settings
  pub sections : List (List Command)
  pub section : Option ℕ
  pub text : TextSoFar

-- the sections with further commands, each at the end of its section
abbrev pub with_commands : List (List Command) → List Placed → List (List Command)
with_commands sections [] = sections
with_commands sections (p ∷ ps) = with_commands (set sections p.0 (get_or sections p.0 [] ++ p.1 ∷ [])) ps

-- the script of its sections: the first is `setup`, the others are the workers'
abbrev pub script_in : List (List Command) → ScriptSections
script_in [] = record { setup = []; workers = [] }
script_in (setup ∷ workers) = record { setup = setup; workers = workers }

-- the script of these sections and of the lines of a text, from this line and this section on, or its first error
unfoldable pub lines_spell : Settings → List (List Command) → Option ℕ → ℕ → Text → Result ScriptSections Fault
lines_spell s sections section line text = commands_from s line section (lines_of text) >>= λ ps. Ok (script_in (with_commands sections ps))

-- the script in the text so far and the following text, or its first error
abbrev pub spelled_with : ReadSoFar → Text → Result ScriptSections Fault
spelled_with r more = result_after r.text more (lines_spell r.settings r.sections r.section r.text.line (r.text.begun ++ more))

-- the commands of `setup`, which is the first section
abbrev pub first_section : List (List Command) → List Command
first_section [] = []
first_section (setup ∷ workers) = setup

-- the script with these commands at the beginning of its `setup`
abbrev pub after_setup : List Command → ScriptSections → ScriptSections
after_setup front script = record { setup = front ++ script.setup; workers = script.workers }

-- the result for a script whose `setup` begins with these commands, given the result without them
abbrev pub read_after : List Command → Result ScriptSections Fault → Result ScriptSections Fault
read_after front read = read >>= λ script. Ok (after_setup front script)

-- the invariant of a script that is being read
pub record IsReading (r : ReadSoFar) : Type 0 where
  pub sections : length r.sections ≡ r.settings.workers + 1
  pub section : IfSome r.section (IsSectionFor r.settings)
  pub commands : All (λ commands. All (IsCommandFor r.settings.nodes) commands) r.sections
  pub most : r.text.most ≡ max_input
