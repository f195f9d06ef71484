-- The messages of programs, their exit statuses, and their effect on their streams (this project's profile).
use Rattle.std.specs.Prelude.{◌≡◌, ◌≢◌, ◌⊎◌, ◌++◌, ◌∷◌, [], ℕ, Bool, true, false, List, Option, None, IfSome, MatchBool, Result, Ok, Err, Vec, String, codes, map, string_bytes, decimal}
use Rattle.std.specs.declared.alloc.Global.{Global}
use Rattle.std.specs.Io.KnownBytes.{Keeps, Appends}
use Rattle.clap.specs.Words.{kind_of}
use Rattle.clap.specs.declared.error.Error.{Error}
use Rattle.clap.specs.declared.error.kind.ErrorKind.{ErrorKind}
use Rattle.clap.specs.declared.error.kind.ErrorKind.TheVariants.{DisplayHelp, DisplayVersion, OutOfMemory as NoMemory}
use Rattle.thp_cli.specs.declared.ending.Ending.{Ending}
use Rattle.thp_cli.specs.declared.ending.Ending.TheVariants.{Written, Illegal}
use Rattle.thp_cli.specs.declared.ending.ProgramFault.{ProgramFault}
use Rattle.thp_cli.specs.declared.ending.ProgramFault.TheVariants.{Run, Usage, NoNode, NoText, Orders, Underused}
use Rattle.thp_cli.specs.declared.ending.WordsFault.{WordsFault}
use Rattle.thp_cli.specs.declared.ending.Program.{Program}
use Rattle.thp_cli.specs.declared.ending.Program.TheVariants.{Thpsplit, Thpcheck, Thpdraw}
use Rattle.thp_cli.specs.declared.fault.RunFault.{RunFault}
use Rattle.thp_cli.specs.declared.fault.RunFault.TheVariants.{Text, OutOfMemory, Read, Write}
use Rattle.thp_cli.specs.declared.calls.DeviceCall.{DeviceCall}
use Rattle.thp_cli.specs.Calls.{WritesOn}
use Rattle.thp_cli.specs.Devices.{WritesFront}
use Rattle.thp_cli.specs.RunFaults.{fault_text}
use Rattle.thp_cli.specs.Watch.{Watch}

-- ---- lines on standard error, and exit statuses

-- a line with this text
abbrev pub text_line : List ℕ → List ℕ
text_line text = text ++ (10 ∷ [])

-- the prefix of a program's lines on standard error: its name
abbrev pub name_front : Program → List ℕ
name_front Thpsplit = codes "thpsplit: "
name_front Thpcheck = codes "thpcheck: "
name_front Thpdraw = codes "thpdraw: "

-- the line for a fault of a run: the program's name, and the text that the fault displays
unfoldable pub fault_line : Program → RunFault ℕ → List ℕ
fault_line program fault = name_front program ++ fault_text fault ++ (10 ∷ [])

-- the line for a node that the journal does not have
unfoldable pub no_node_line : Program → ℕ → List ℕ
no_node_line program number = name_front program ++ codes "no node " ++ decimal number ++ (10 ∷ [])

-- the message on standard error: for a fault of a run its line; for an error in the words `clap`'s text
abbrev pub message_text : Program → ProgramFault → List ℕ
message_text program (Run fault) = fault_line program fault
message_text program (Usage text) = string_bytes text
message_text program Orders = text_line (codes "thpsplit: bad orders")
message_text program Underused = text_line (codes "thpsplit: bad underused")
message_text program (NoNode number) = no_node_line program number
message_text program NoText = text_line (codes "error: invalid UTF-8 was detected in one or more arguments")

-- 2 if the script has an error, 3 if memory could not be allocated or a device failed
abbrev pub status_of : RunFault ℕ → ℕ
status_of (Text line kind) = 2
status_of OutOfMemory = 3
status_of Read = 3
status_of Write = 3

-- 2 also if the words have an error, or the journal lacks the requested node
abbrev pub exit_status : ProgramFault → ℕ
exit_status (Run fault) = status_of fault
exit_status (Usage text) = 2
exit_status Orders = 2
exit_status Underused = 2
exit_status (NoNode number) = 2
exit_status NoText = 2

-- 1 if a journal is illegal
abbrev pub end_status : Ending → ℕ
end_status Written = 0
end_status Illegal = 1

-- ---- devices

-- a writer: its content before and after, if known, whether it failed, and its calls before and after
pub record Device : Type 0 where
  pub before : Option (List ℕ)
  pub after : Option (List ℕ)
  pub failed : Bool
  pub called : List DeviceCall
  pub calls : List DeviceCall

-- a writer before and after, by its content
abbrev pub device_of : {W : Type 0} → (W → Option (List ℕ)) → Watch W → Watch W → Device
device_of contents old new = record { before = contents old.device; after = contents new.device; failed = new.failed; called = old.calls; calls = new.calls }

-- the writer was not called
abbrev pub IsUntouched : Device → Type 0
IsUntouched w = Keeps w.before w.after × (w.failed ≡ false) × (w.calls ≡ w.called)

-- the writer took the text, or a prefix of it if it failed, and was flushed once if no write failed
abbrev pub WriterTakes : Device → List ℕ → Type 0
WriterTakes w text = MatchBool w.failed (WritesFront w.before w.after text) (Appends w.before w.after text) × WritesOn w.failed w.called w.calls

-- a reader: the bytes that it had, if known, whether it failed, and its calls before and after
pub record Source : Type 0 where
  pub bytes : Option (List ℕ)
  pub failed : Bool
  pub called : List DeviceCall
  pub calls : List DeviceCall

-- a reader before and after, by its remaining bytes
abbrev pub source_of : {R : Type 0} → (R → Option (List ℕ)) → Watch R → Watch R → Source
source_of remaining old new = record { bytes = remaining old.device; failed = new.failed; called = old.calls; calls = new.calls }

-- the reader was not called
abbrev pub IsUnread : Source → Type 0
IsUnread r = (r.failed ≡ false) × (r.calls ≡ r.called)

-- ---- what was done

-- the words, if they are available
abbrev pub given_words : Result (Vec (String Global) Global) WordsFault → Result (List (List ℕ)) WordsFault
given_words (Ok words) = Ok (map string_bytes words.items)
given_words (Err fault) = Err fault

-- help or the version was requested
abbrev pub is_request : ErrorKind → Bool
is_request DisplayHelp = true
is_request DisplayVersion = true
is_request _ = false

-- the text is the one that a value displays, if its type specifies that
abbrev pub IsTextOf : Option (List ℕ) → List ℕ → Type 0
IsTextOf shown text = IfSome shown (λ known. text ≡ known)

-- the writer took what a value displays, or a prefix of it if it failed, or memory for the text could not be allocated
abbrev pub IsShown : Option (List ℕ) → Device → Result (Unit {0}) (RunFault ℕ) → Type 0
IsShown shown output (Ok _) = (text : List ℕ) × IsTextOf shown text × WriterTakes output text × (output.failed ≡ false)
IsShown shown output (Err fault) =
    ((text : List ℕ) × IsTextOf shown text × WriterTakes output text × (output.failed ≡ true) × (fault ≡ Write))
    ⊎ (IsUntouched output × (fault ≡ OutOfMemory))

-- How the program ends for a result of this kind: its text is written, it is reported as lack of memory, or it is reported as an
-- error in the words.
abbrev pub Answers : Option (List ℕ) → ErrorKind → Device → Result (Unit {0}) ProgramFault → Type 0
Answers shown kind output (Ok u) = (is_request kind ≡ true) × IsShown shown output (Ok u)
Answers shown kind output (Err (Run fault)) = ((is_request kind ≡ true) × IsShown shown output (Err fault)) ⊎ (IsUntouched output × (fault ≡ OutOfMemory))
Answers shown kind output (Err (Usage text)) = (is_request kind ≡ false) × (kind ≢ NoMemory) × IsTextOf shown (string_bytes text) × IsUntouched output
Answers shown kind output (Err _) = ⊥

-- the text that `clap`'s errors display: `clap` does not specify it
abbrev pub clap_text : Error → Option (List ℕ)
clap_text error = None

-- such a result ends the program, too
abbrev pub ended_by : Result (Unit {0}) ProgramFault → Result Ending ProgramFault
ended_by (Ok _) = Ok Written
ended_by (Err fault) = Err fault

-- `clap` returned an error that the words have, and its text was written or reported; nothing was read
pub record WasAnsweredBy (HasError : Error → Type 0) (input : Source) (output : Device) (result : Result Ending ProgramFault) : Type 0 where
  pub error : Error
  pub refused : HasError error
  pub answer : Result (Unit {0}) ProgramFault
  pub answered : Answers (clap_text error) (kind_of error) output answer
  pub unread : IsUnread input
  pub ended : result ≡ ended_by answer

-- memory could not be allocated before anything was requested
abbrev pub IsShort : Source → Device → Result Ending ProgramFault → Type 0
IsShort input output result = (result ≡ Err (Run OutOfMemory)) × IsUntouched output × IsUnread input

-- the text that standard error took from a program, and the exit status
abbrev pub WritesMessage : Program → Device → ℕ → Result Ending ProgramFault → Type 0
WritesMessage program errors status (Ok ending) = IsUntouched errors × (status ≡ end_status ending)
WritesMessage program errors status (Err fault) = WriterTakes errors (message_text program fault) × (status ≡ exit_status fault)
