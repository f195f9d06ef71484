-- Runs of a script whose workers use different nodes: the events and answers follow from the script.
use Rattle.std.specs.Prelude.{◌≡◌, ℕ, All, List, [], Some, slice_get}
use Rattle.std.specs.List.{AllZip}
use Rattle.thp_history.specs.declared.shape.Shape.{Shape}
use Rattle.thp_history.specs.Prelude.{SameButBlocks, History}
use Rattle.thp_script.specs.declared.script.Command.{Command}
use Rattle.thp_script.specs.declared.script.ScriptSections.{ScriptSections}
use Rattle.thp_worker.specs.declared.reply.SectionLog.{SectionLog}
use Rattle.thp_run.specs.Runs.{IsRun}

-- no two workers have commands on the same node
abbrev pub AreApart : ScriptSections → Type 0
AreApart script = (owner : ℕ → ℕ) × ((k : ℕ) (commands : List Command) → slice_get script.workers k ≡ Some commands → All (λ (command : Command). owner command.node ≡ k) commands)

-- at most one worker has commands
abbrev pub HasOneWorker : ScriptSections → Type 0
HasOneWorker script = (sole : ℕ) × ((k : ℕ) (commands : List Command) → slice_get script.workers k ≡ Some commands → (k ≡ sole → ⊥) → commands ≡ [])

-- two sections have the same answers
pub record IsSameSection (section other : SectionLog) : Type 0 where
  pub number : section.worker ≡ other.worker
  pub answers : section.answers.items ≡ other.answers.items

-- the events of each node are the same in two runs except for blocks, and each section has the same answers in both
pub record IsSameRun (history other : ℕ → History) (sections others : List SectionLog) : Type 0 where
  pub histories : (n : ℕ) → SameButBlocks (history n) (other n)
  pub answers : AllZip IsSameSection sections others

-- two runs of a script whose workers are apart, on equally many nodes of the same shapes
abbrev pub WorkersApartHaveOneRun : Type 0
WorkersApartHaveOneRun =
    (nodes : ℕ) (shape : ℕ → Shape) (script : ScriptSections) (history other : ℕ → History) (sections others : List SectionLog) → AreApart script →
    IsRun nodes shape script history sections → IsRun nodes shape script other others → IsSameRun history other sections others

-- the same for a script with one worker
abbrev pub OneWorkerHasOneRun : Type 0
OneWorkerHasOneRun =
    (nodes : ℕ) (shape : ℕ → Shape) (script : ScriptSections) (history other : ℕ → History) (sections others : List SectionLog) → HasOneWorker script →
    IsRun nodes shape script history sections → IsRun nodes shape script other others → IsSameRun history other sections others
