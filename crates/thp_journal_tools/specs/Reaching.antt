-- The data of a reading that shows its progress.
use Rattle.std.specs.Prelude.{◌≡◌, ◌⊎◌, ◌++◌, ℕ, Bool, true, false, All, List, [], ◌∷◌, Option, IfSome, length}
use Rattle.thp_cli.specs.declared.ending.Program.{Program}
use Rattle.thp_cli.specs.Prelude.{device_of, Device, WriterTakes, Watch}
use Rattle.thp_journal_tools.specs.declared.progress.Progress.{Progress}
use Rattle.thp_journal_tools.specs.Counting.{begins_after, events_in}
use Rattle.thp_journal_tools.specs.Progress.{progress_line, progress_text, removal, IsReached, Reached, DeviceTook}

-- the bytes and the events of this text have been counted
pub record HasCounted (progress : Progress) (text : List ℕ) : Type 0 where
  pub bytes_are : progress.bytes ≡ length text
  pub events_are : progress.counted.events ≡ events_in text
  pub begins_is : progress.counted.begins ≡ begins_after true text

-- there is a line
abbrev pub is_some_line : List Reached → Bool
is_some_line [] = false
is_some_line (line ∷ lines) = true

-- the screen took a program's lines of progress, each for a prefix of the text; it shows the last of them, if there is one
pub record HasShown (program : Program) (text : List ℕ) (stands : Bool) (screen : Device) : Type 0 where
  pub lines : List Reached
  pub reached : All (IsReached text) lines
  pub took : DeviceTook screen (progress_text program lines)
  pub stands_is : stands ≡ is_some_line lines

-- the line for the current progress
abbrev pub line_at : Progress → ℕ → List ℕ
line_at progress rate = progress_line progress.program (record { bytes = progress.bytes; events = progress.counted.events; rate = rate })

-- the screen is unchanged, or took the line for the current progress, which it now shows
abbrev pub Looks : {S : Type 0} → (S → Option (List ℕ)) → Bool → Progress → Watch S → Watch S → Type 0
Looks contents stood progress old new =
    ((new ≡ old) × (progress.stands ≡ stood))
    ⊎ ((old.failed ≡ false) × (progress.stands ≡ true) × ((rate : ℕ) × WriterTakes (device_of contents old new) (line_at progress rate)))

-- the line on the screen was removed; if there was none, or the screen had failed, it is unchanged
abbrev pub Removes : {S : Type 0} → (S → Option (List ℕ)) → Bool → Watch S → Watch S → Type 0
Removes contents stood old new =
    ((old.failed ≡ false) × (stood ≡ true) × WriterTakes (device_of contents old new) removal)
    ⊎ ((new ≡ old) × ((stood ≡ false) ⊎ (old.failed ≡ true)))

-- these bytes were read, of those that could be read
abbrev pub IsReadOf : Option (List ℕ) → List ℕ → Type 0
IsReadOf known bytes = IfSome known (λ text. (rest : List ℕ) × (text ≡ bytes ++ rest))
