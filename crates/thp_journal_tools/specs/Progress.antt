-- The output to a screen while a journal is read: lines that show the progress (this project's profile).
use Rattle.std.specs.Prelude.{◌≡◌, ◌*◌, ◌/◌, ◌%◌, ◌++◌, ◌∷◌, [], ℕ, Bool, true, false, ◌||◌, All, List, Option, IfSome, MatchBool, codes, length, map, decimal}
use Rattle.std.specs.Io.KnownBytes.{Appends}
use Rattle.std.specs.List.{concat}
use Rattle.thp_cli.specs.declared.calls.DeviceCall.{DeviceCall}
use Rattle.thp_cli.specs.Prelude.{is_answered, WritesFront, name_front, Device, IsUntouched}
use Rattle.thp_cli.specs.declared.ending.Program.{Program}
use Rattle.thp_journal_tools.specs.Counting.{events_in}

-- ---- the progress

-- the content of a line of progress: bytes read, the events in them, and bytes per second
pub record Reached : Type 0 where
  pub bytes : ℕ
  pub events : ℕ
  pub rate : ℕ

-- so many bytes of the text, and events in them, have been read
pub record IsReached (text : List ℕ) (reached : Reached) : Type 0 where
  pub front : List ℕ
  pub rest : List ℕ
  pub parts : text ≡ front ++ rest
  pub bytes_are : reached.bytes ≡ length front
  pub events_are : reached.events ≡ events_in front

-- ---- lines of progress

-- the text that removes a line of progress, or clears its place: a carriage return, and ESC [K
abbrev pub removal : List ℕ
removal = 13 ∷ 27 ∷ codes "[K"

-- bytes as mebibytes, with one decimal
unfoldable pub mebibytes : ℕ → List ℕ
mebibytes bytes = decimal (bytes / 1048576) ++ codes "." ++ decimal (bytes % 1048576 * 10 / 1048576) ++ codes " MiB"

-- the line of a program, after its name
unfoldable pub progress_line : Program → Reached → List ℕ
progress_line program r = removal ++ name_front program ++ mebibytes r.bytes ++ codes ", " ++ decimal r.events ++ codes " events, " ++ mebibytes r.rate ++ codes "/s"

-- lines, each of which replaces the one before
abbrev pub progress_text : Program → List Reached → List ℕ
progress_text program lines = concat (map (progress_line program) lines)

-- the text that removes the last of them, if there is one
abbrev pub last_removed : List Reached → List ℕ
last_removed [] = []
last_removed (line ∷ lines) = removal

-- ---- a screen

-- a call succeeded
abbrev pub CallSucceeded : DeviceCall → Type 0
CallSucceeded c = is_answered c ≡ true

-- each call succeeded, except the last if the device failed: none is tried again
abbrev pub AreAnswered : Bool → List DeviceCall → List DeviceCall → Type 0
AreAnswered false old new = (more : List DeviceCall) × (new ≡ old ++ more) × All CallSucceeded more
AreAnswered true old new = (more : List DeviceCall) × (last : DeviceCall) × (new ≡ old ++ (more ++ last ∷ [])) × All CallSucceeded more × ¬ (CallSucceeded last)

-- the device took a text, or a prefix of it if it failed
pub record DeviceTook (w : Device) (text : List ℕ) : Type 0 where
  pub bytes : MatchBool w.failed (WritesFront w.before w.after text) (Appends w.before w.after text)
  pub calls : AreAnswered w.failed w.called w.calls

-- the screen took a program's lines of progress, each for a prefix of the text, and the last of them was removed
pub record ShowsLines (program : Program) (input : Option (List ℕ)) (screen : Device) : Type 0 where
  pub lines : List Reached
  pub reached : IfSome input (λ text. All (IsReached text) lines)
  pub took : DeviceTook screen (progress_text program lines ++ last_removed lines)

-- the output to a screen if progress may be shown; nothing otherwise
abbrev pub ShowsProgress : Program → Bool → Option (List ℕ) → Device → Type 0
ShowsProgress program true input screen = ShowsLines program input screen
ShowsProgress program false input screen = IsUntouched screen

-- progress may be shown if it is requested, or if the screen is a terminal
abbrev pub may_show : Bool → Bool → Bool
may_show asked is_terminal = asked || is_terminal
