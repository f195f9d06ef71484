-- What `thpcheck` does with a journal, as its options request (this project's profile).
use Rattle.std.specs.Prelude.{◌≡◌, ◌&&◌, ℕ, Bool, true, false, not, List, Option, Some, None, Result, Ok, Err}
use Rattle.thp_journal_reader.specs.declared.long_check.Illegal.{Illegal}
use Rattle.thp_cli.specs.declared.ending.Ending.{Ending}
use Rattle.thp_cli.specs.declared.ending.Ending.TheVariants.{Written, Illegal as IsIllegal}
use Rattle.thp_cli.specs.declared.ending.ProgramFault.{ProgramFault}
use Rattle.thp_cli.specs.declared.ending.ProgramFault.TheVariants.{Run}
use Rattle.thp_cli.specs.Prelude.{Device, Source}
use Rattle.thp_journal_tools.specs.declared.program.CheckOptions.{CheckOptions}
use Rattle.thp_journal_tools.specs.Checks.{explanation_of, JournalIsChecked}
use Rattle.thp_journal_scripts.specs.declared.script_check.Scripted.{Scripted}
use Rattle.thp_journal_tools.specs.Progress.{may_show}
use Rattle.thp_journal_tools.specs.Scripting.{notes_of, Scripts}

-- how the check of a journal ends the program, by its first illegal event
abbrev pub ending_of : Option Illegal → Ending
ending_of None = Written
ending_of (Some illegal) = IsIllegal

-- the journal was checked, and this is the explanation to write
pub record DidEnd (options : CheckOptions) (input : Source) (output : Device) (ending : Ending) (explanation : Option (List ℕ)) : Type 0 where
  pub illegal : Option Illegal
  pub checks : JournalIsChecked options input output (Ok illegal)
  pub ending_is : ending ≡ ending_of illegal
  pub explanation_is : explanation ≡ explanation_of options illegal

-- what was done with the journal, by how it ended
abbrev pub CheckIsDone : CheckOptions → Source → Device → Result Ending ProgramFault → Option (List ℕ) → Type 0
CheckIsDone options input output (Ok ending) explanation = DidEnd options input output ending explanation
CheckIsDone options input output (Err (Run fault)) explanation = JournalIsChecked options input output (Err fault) × (explanation ≡ None)
CheckIsDone options input output (Err _) explanation = ⊥

-- a script was written, and this is the text for standard error
pub record DidScript (options : CheckOptions) (input : Source) (output : Device) (ending : Ending) (notes : Option (List ℕ)) : Type 0 where
  pub found : Scripted
  pub scripts : Scripts input output (Ok found)
  pub ending_is : ending ≡ ending_of found.illegal
  pub notes_are : notes ≡ notes_of options found

-- what was done with the journal if its script is requested, by how it ended
abbrev pub DoesScript : CheckOptions → Source → Device → Result Ending ProgramFault → Option (List ℕ) → Type 0
DoesScript options input output (Ok ending) notes = DidScript options input output ending notes
DoesScript options input output (Err (Run fault)) notes = Scripts input output (Err fault) × (notes ≡ None)
DoesScript options input output (Err _) notes = ⊥

-- what was done with the journal, by whether its script is requested
abbrev pub DoesAsked : Bool → CheckOptions → Source → Device → Result Ending ProgramFault → Option (List ℕ) → Type 0
DoesAsked false = CheckIsDone
DoesAsked true = DoesScript

-- what was done with the journal as the options request
abbrev pub DoesRequest : CheckOptions → Source → Device → Result Ending ProgramFault → Option (List ℕ) → Type 0
DoesRequest options = DoesAsked options.script options

-- the progress of a check may be shown; that of a script is not
abbrev pub shows_progress : CheckOptions → Bool → Bool
shows_progress options is_terminal = not options.script && may_show options.progress is_terminal
