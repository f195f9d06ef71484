-- What a program of journals does with its words, its input and its outputs, and its exit status, for any kind of request (this
-- project's profile).
use Rattle.std.specs.Prelude.{◌≡◌, ◌⊎◌, ℕ, Bool, true, List, Option, Some, None, Result, Ok, Err, if◌then◌else◌, option_map}
use Rattle.clap.specs.declared.error.Error.{Error}
use Rattle.thp_cli.specs.declared.ending.Ending.{Ending}
use Rattle.thp_cli.specs.declared.ending.Ending.TheVariants.{Illegal, Written}
use Rattle.thp_cli.specs.declared.ending.Program.{Program}
use Rattle.thp_cli.specs.declared.ending.ProgramFault.{ProgramFault}
use Rattle.thp_cli.specs.declared.ending.ProgramFault.TheVariants.{NoText}
use Rattle.thp_cli.specs.declared.ending.WordsFault.{WordsFault}
use Rattle.thp_cli.specs.declared.ending.WordsFault.TheVariants as words
use Rattle.thp_cli.specs.Prelude.{Device, IsShort, IsUnread, IsUntouched, Source, WriterTakes, WritesMessage, WasAnsweredBy, end_status}
use Rattle.thp_journal_tools.specs.declared.request.ProgramEnd.{ProgramEnd}
use Rattle.thp_journal_tools.specs.Progress.{ShowsProgress}

-- how the program ends after the output was written, by whether an event in it is illegal
abbrev pub ending_if : Bool → Ending
ending_if illegal = if illegal then Illegal else Written

-- how the program ended, and the text for standard error
abbrev pub program_ending : Result ProgramEnd ProgramFault → Result Ending ProgramFault
program_ending (Ok done) = Ok done.ending
program_ending (Err fault) = Err fault

abbrev pub notes_by : Result ProgramEnd ProgramFault → Option (List ℕ)
notes_by (Ok done) = option_map (λ t. t.items) done.notes
notes_by (Err fault) = None

-- `answers words (Ok request)`: the words make this request. `does request input output result notes`: it was done like this.
module _ {A : Type 0} (answers : List (List ℕ) → Result A Error → Type 0) (does : A → Source → Device → Result Ending ProgramFault → Option (List ℕ) → Type 0) where
  -- the words make a request, and that was done
  pub record DidRequest (words : List (List ℕ)) (input : Source) (output : Device) (result : Result Ending ProgramFault) (notes : Option (List ℕ)) : Type 0 where
    pub request : A
    pub accepted : answers words (Ok request)
    pub done : does request input output result notes

  -- nothing was done: the words were rejected or request a text, or memory could not be allocated
  abbrev pub DidNothing : List (List ℕ) → Source → Device → Result Ending ProgramFault → Option (List ℕ) → Type 0
  DidNothing words input output result notes =
      (WasAnsweredBy (λ error. answers words (Err error)) input output result ⊎ IsShort input output result) × (notes ≡ None)

  -- what was done with the words, the input and standard output, by how it ended
  abbrev pub RequestServed : Result (List (List ℕ)) WordsFault → Source → Device → Result Ending ProgramFault → Option (List ℕ) → Type 0
  RequestServed (Ok words) input output result notes = DidRequest words input output result notes ⊎ DidNothing words input output result notes
  RequestServed (Err words.NotText) input output result notes = (result ≡ Err NoText) × IsUntouched output × IsUnread input × (notes ≡ None)
  RequestServed (Err words.OutOfMemory) input output result notes = IsShort input output result × (notes ≡ None)

-- standard error took the text, if there is one, otherwise nothing
abbrev pub TakesNotes : Device → Option (List ℕ) → Type 0
TakesNotes errors None = IsUntouched errors
TakesNotes errors (Some text) = WriterTakes errors text

-- the text that standard error took, and the exit status, which does not depend on that text
abbrev pub ReportsEnd : Program → Device → ℕ → Result Ending ProgramFault → Option (List ℕ) → Type 0
ReportsEnd program errors status (Ok ending) notes = TakesNotes errors notes × (status ≡ end_status ending)
ReportsEnd program errors status (Err fault) notes = WritesMessage program errors status (Err fault)

-- how the program ends: what it did, what it reported about that and its exit status
pub record ToolFinishes {A : Type 0} (program : Program) (answers : List (List ℕ) → Result A Error → Type 0) (does : A → Source → Device → Result Ending ProgramFault → Option (List ℕ) → Type 0) (given : Result (List (List ℕ)) WordsFault) (input : Source) (output errors : Device) (status : ℕ) : Type 0 where
  pub end : Result Ending ProgramFault
  pub notes : Option (List ℕ)
  pub served : RequestServed answers does given input output end notes
  pub reported : ReportsEnd program errors status end notes

-- the words make a request whose progress may be shown
abbrev pub AskForProgress : {A : Type 0} → (List (List ℕ) → Result A Error → Type 0) → (A → Bool → Bool) → Result (List (List ℕ)) WordsFault → Bool → Type 0
AskForProgress {A} answers shows (Ok words) is_terminal = (request : A) × answers words (Ok request) × (shows request is_terminal ≡ true)
AskForProgress answers shows (Err fault) is_terminal = ⊥

-- the screen took the progress of the request that the words make, if they do and it may be shown, otherwise nothing
pub record ShowsAsAsked {A : Type 0} (program : Program) (answers : List (List ℕ) → Result A Error → Type 0) (shows : A → Bool → Bool) (given : Result (List (List ℕ)) WordsFault) (is_terminal : Bool) (input : Source) (screen : Device) : Type 0 where
  pub is_shown : Bool
  pub asked : is_shown ≡ true → AskForProgress answers shows given is_terminal
  pub shown : ShowsProgress program is_shown input.bytes screen
