-- Scripts that repeat histories: a run of such a script records the history again, except for its blocks.
use Rattle.std.specs.Prelude.{◌≡◌, ℕ, nat_eq, List, [], All, map, slice_get, Some, filter}
use Rattle.thp_history.specs.declared.events.Event.{Event}
use Rattle.thp_history.specs.declared.shape.Shape.{Shape}
use Rattle.thp_history.specs.Prelude.{SameButBlocks, History, IsLegal, IsShape}
use Rattle.thp_script.specs.declared.script.Command.{Command}
use Rattle.thp_script.specs.declared.script.Op.{Op}
use Rattle.thp_script.specs.declared.script.ScriptSections.{ScriptSections}
use Rattle.thp_journal_scripts.specs.declared.folding.Moved.{Moved}
use Rattle.thp_journal_scripts.specs.Prelude.{IsScript, out_of_turn, IsWholeScans}
use Rattle.thp_worker.specs.declared.reply.SectionLog.{SectionLog}
use Rattle.thp_run.specs.Runs.{IsRun}

-- the commands on node n
abbrev pub ops_on : ℕ → List Command → List Op
ops_on n commands = map (λ (c : Command). c.op) (filter (λ (c : Command). nat_eq c.node n) commands)

-- no worker has commands
abbrev pub HasSetupOnly : ScriptSections → Type 0
HasSetupOnly script = (k : ℕ) (commands : List Command) → slice_get script.workers k ≡ Some commands → commands ≡ []

-- the legal history of caller 0 alone, whose batches are whole scans that try their pages in the order of the takes, and the script
-- that repeats it
pub record IsRepeated (s : Shape) (h : History) (ops : List Op) : Type 0 where
  pub shape : IsShape s
  pub legal : IsLegal s h
  pub callers : All (λ (e : Event). e.caller ≡ 0) h
  pub scans : IsWholeScans h
  pub in_turn : out_of_turn h ≡ 0
  pub moved : Moved
  pub script : IsScript h ops moved

-- a run of such a script for each node records the same histories, except for blocks
abbrev pub ScriptsRepeatHistories : Type 0
ScriptsRepeatHistories =
    (nodes : ℕ) (shape : ℕ → Shape) (script : ScriptSections) (history made : ℕ → History) (sections : List SectionLog) →
    IsRun nodes shape script made sections → HasSetupOnly script → ((n : ℕ) → IsRepeated (shape n) (history n) (ops_on n script.setup)) →
    (n : ℕ) → SameButBlocks (history n) (made n)
