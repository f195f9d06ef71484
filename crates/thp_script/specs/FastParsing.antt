-- Fast parsing of commands at the beginning of a text, in one pass over its bytes. No public clause cites this module.
use Rattle.std.specs.Prelude.{◌≡◌, ◌<◌, ◌+◌, ℕ, false, All, IfSome, List, ◌∷◌, [], ◌++◌, length, Option, Result, Ok}
use Rattle.thp_script.specs.declared.fault.TextKind.{TextKind}
use Rattle.thp_script.specs.declared.script.Command.{Command}
use Rattle.thp_script.specs.declared.script.ScriptSections.{ScriptSections}
use Rattle.thp_script.specs.declared.settings.Settings.{Settings}
use Rattle.thp_script.specs.declared.statement.Statement.TheVariants.{Call}
use Rattle.thp_script.specs.Commands.{IsCommandFor, Reading}
use Rattle.thp_script.specs.Limits.{max_input}
use Rattle.thp_script.specs.Parts.{lines_spell}
use Rattle.thp_script.specs.Readings.{◌>>=◌}
use Rattle.thp_script.specs.Scripts.{Fault}
use Rattle.thp_script.specs.Statements.{by_words, says_nothing, statement_of, IsSectionFor}
use Rattle.thp_script.specs.TextInParts.{result_after, IsCounted, TextSoFar}
use Rattle.thp_script.specs.Words.{Text, lines_of, pieces_at, words_in_line}

-- the text begins with a line of these words, and continues with `rest`
pub record FastLine (words : List Text) (text rest : Text) : Type 0 where
  pub line : Text
  pub words_are : words_in_line line ≡ words
  pub one_line : lines_of line ≡ line ∷ []
  pub stands : text ≡ line ++ 10 ∷ rest

-- the text begins with a line whose words parse as this command, and continues with `rest`
pub record FastOperands (reading : List Text → Result Command TextKind) (text : Text) (command : Command) (rest : Text) : Type 0 where
  pub words : List Text
  pub line : FastLine words text rest
  pub reads : reading words ≡ Ok command

-- the text begins with a line that is this command, and continues with `rest`
pub record FastCommand (s : Settings) (text : Text) (command : Command) (rest : Text) : Type 0 where
  pub line : Text
  pub lines : lines_of text ≡ line ∷ lines_of rest
  pub shorter : length rest < length text
  pub says : Ok (Call command) ≡ statement_of s line

-- a name of a command whose operands are read so: no byte of it ends a word or a line, and no comment begins with it
pub record IsName (s : Settings) (name : Text) (reading : Reading) : Type 0 where
  pub one_word : pieces_at 32 name ≡ name ∷ []
  pub one_line : pieces_at 10 name ≡ name ∷ []
  pub says : (line : Text) → says_nothing (name ++ 32 ∷ line) ≡ false
  pub reads : (words : List Text) → by_words s (name ∷ words) ≡ (reading s words >>= λ command. Ok (Call command))

-- the result for the text read, the rest of a part and the text to follow
abbrev pub spelled_after : Settings → List (List Command) → Option ℕ → TextSoFar → Text → Text → Result ScriptSections Fault
spelled_after s sections section t rest more = result_after t more (lines_spell s sections section t.line (t.begun ++ (rest ++ more)))

-- the invariant of a script that is being read while so much of a part is left
pub record IsPartRead (s : Settings) (sections : List (List Command)) (section : Option ℕ) (t : TextSoFar) (rest : Text) : Type 0 where
  pub counted : IsCounted rest t
  pub count : length sections ≡ s.workers + 1
  pub place : IfSome section (IsSectionFor s)
  pub commands : All (λ commands. All (IsCommandFor s.nodes) commands) sections
  pub most : t.most ≡ max_input
