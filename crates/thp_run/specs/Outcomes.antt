-- The effect of the program on its words, its input and its outputs, and its exit status (this project's profile).
use Rattle.std.specs.Prelude.{◌≡◌, ◌⊎◌, ℕ, Bool, true, false, List, Result, Ok, Err}
use Rattle.thp_cli.specs.declared.line.Line.{Line}
use Rattle.thp_cli.specs.Prelude.{FailsAsWords, HoldsWords, ReadsOn, Device, IsShort, IsUnread, IsUntouched, Source, WritesMessage, WasAnsweredBy, WritesAnswer}
use Rattle.thp_cli.specs.declared.ending.Ending.{Ending}
use Rattle.thp_cli.specs.declared.ending.Ending.TheVariants.{Written, Illegal}
use Rattle.thp_cli.specs.declared.ending.Program.TheVariants.{Thpsplit}
use Rattle.thp_cli.specs.declared.ending.ProgramFault.{ProgramFault}
use Rattle.thp_cli.specs.declared.ending.ProgramFault.TheVariants.{Run, NoText, Orders, Underused}
use Rattle.thp_cli.specs.declared.ending.WordsFault.{WordsFault}
use Rattle.thp_cli.specs.declared.ending.WordsFault.TheVariants as words
use Rattle.thp_cli.specs.declared.fault.RunFault.{RunFault}
use Rattle.thp_script.specs.Prelude.{max_input}
use Rattle.thp_script.specs.declared.settings.Settings.{Settings}
use Rattle.thp_run.specs.Checks.{CheckEnds}
use Rattle.thp_run.specs.Choices.{HasBadOrders, HasOnlyBadThresholds, IsSettingsOf}
use Rattle.thp_run.specs.Programs.{RunEnds}

-- the run that a line requests ended like this
pub record Runs (line : Line) (input : Source) (output : Device) (result : Result (Unit {0}) (RunFault ℕ)) : Type 0 where
  pub asked : line.check ≡ false
  pub settings : Settings
  pub settings_are : IsSettingsOf line settings
  pub ends : RunEnds settings input.bytes output.before output.after input.failed output.failed result
  pub reads : ReadsOn max_input input.failed input.called input.calls
  pub writes : WritesAnswer result output.failed output.called output.calls

-- the check that a line requests ended like this
pub record Checks (line : Line) (input : Source) (output : Device) (result : Result Bool (RunFault ℕ)) : Type 0 where
  pub asked : line.check ≡ true
  pub ends : CheckEnds input.bytes output.before output.after input.failed output.failed result
  pub reads : ReadsOn max_input input.failed input.called input.calls
  pub writes : WritesAnswer result output.failed output.called output.calls

-- what was done for a line, by how it ended; options that are not valid are rejected before anything is read
abbrev pub LineIsDone : Line → Source → Device → Result Ending ProgramFault → Type 0
LineIsDone line input output (Ok Written) = Runs line input output (Ok tt) ⊎ Checks line input output (Ok true)
LineIsDone line input output (Ok Illegal) = Checks line input output (Ok false)
LineIsDone line input output (Err (Run fault)) = Runs line input output (Err fault) ⊎ Checks line input output (Err fault)
LineIsDone line input output (Err Orders) = (line.check ≡ false) × HasBadOrders line.orders line.nodes × IsUnread input × IsUntouched output
LineIsDone line input output (Err Underused) = (line.check ≡ false) × HasOnlyBadThresholds line × IsUnread input × IsUntouched output
LineIsDone line input output (Err _) = ⊥

-- the words request this line, and that was done
pub record DidLine (words : List (List ℕ)) (input : Source) (output : Device) (result : Result Ending ProgramFault) : Type 0 where
  pub line : Line
  pub held : HoldsWords words line
  pub accepted : FailsAsWords words (Ok line)
  pub does : LineIsDone line input output result

-- the command line was rejected, or requested a text
abbrev pub WasAnswered : List (List ℕ) → Source → Device → Result Ending ProgramFault → Type 0
WasAnswered words = WasAnsweredBy (λ error. FailsAsWords words (Err error))

-- what was done with the words, the input and standard output, by how it ended
abbrev pub Served : Result (List (List ℕ)) WordsFault → Source → Device → Result Ending ProgramFault → Type 0
Served (Ok words) input output result = DidLine words input output result ⊎ (WasAnswered words input output result ⊎ IsShort input output result)
Served (Err words.NotText) input output result = (result ≡ Err NoText) × IsUntouched output × IsUnread input
Served (Err words.OutOfMemory) input output result = IsShort input output result

-- how the program ends: what it did, what it reported about that and its exit status
pub record Finishes (given : Result (List (List ℕ)) WordsFault) (input : Source) (output errors : Device) (status : ℕ) : Type 0 where
  pub end : Result Ending ProgramFault
  pub served : Served given input output end
  pub reported : WritesMessage Thpsplit errors status end
