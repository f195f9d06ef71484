-- The output for a script whose workers use different nodes.
use Rattle.std.specs.Prelude.{◌≡◌, ◌≤◌, List, ℕ, Some, Ok, false}
use Rattle.thp_script.specs.declared.script.ScriptSections.{ScriptSections}
use Rattle.thp_script.specs.declared.settings.Settings.{Settings}
use Rattle.thp_script.specs.Prelude.{script_of}
use Rattle.thp_run.specs.Programs.{IsReport, RunEnds}
use Rattle.thp_laws.specs.OneRun.{AreApart, HasOneWorker}

-- in the input's script no two workers have commands on the same node
abbrev pub SpellsWorkersApart : Settings → List ℕ → Type 0
SpellsWorkersApart s input = (script : ScriptSections) → script_of s input ≡ Ok script → AreApart script

-- this includes scripts where at most one worker has commands
abbrev pub OneWorkerIsApart : Type 0
OneWorkerIsApart = (s : Settings) (input : List ℕ) → ((script : ScriptSections) → script_of s input ≡ Ok script → HasOneWorker script) → SpellsWorkersApart s input

-- it includes settings with one worker or none
abbrev pub OneSettingIsApart : Type 0
OneSettingIsApart = (s : Settings) (input : List ℕ) → s.workers ≤ 1 → SpellsWorkersApart s input

-- two reports of an input's script, under the same settings, are equal
abbrev pub WorkersApartHaveOneReport : Type 0
WorkersApartHaveOneReport = (s : Settings) (input text other : List ℕ) → SpellsWorkersApart s input → IsReport s input text → IsReport s input other → text ≡ other

-- two runs that succeed, whose writers had the same content, wrote the same
abbrev pub WorkersApartWriteOneText : Type 0
WorkersApartWriteOneText =
    (s : Settings) (input old new other : List ℕ) → SpellsWorkersApart s input →
    RunEnds s (Some input) (Some old) (Some new) false false (Ok tt) → RunEnds s (Some input) (Some old) (Some other) false false (Ok tt) → new ≡ other

-- the same for settings with one worker or none
abbrev pub OneWorkerHasOneReport : Type 0
OneWorkerHasOneReport = (s : Settings) (input text other : List ℕ) → s.workers ≤ 1 → IsReport s input text → IsReport s input other → text ≡ other
