-- Runs of a script: each node has one legal history, which contains the steps of each caller in order.
use Rattle.std.specs.Prelude.{◌≡◌, ℕ, ◌+◌, ◌<◌, ◌≤◌, List, ◌∷◌, ◌++◌, All, AllPairs, Option, Some, None, length, map, slice_get}
use Rattle.thp_history.specs.declared.events.Event.{Event}
use Rattle.thp_history.specs.declared.shape.Shape.{Shape}
use Rattle.thp_history.specs.Prelude.{History, events_of, IsLegal}
use Rattle.thp_script.specs.declared.script.Command.{Command}
use Rattle.thp_script.specs.declared.script.ScriptSections.{ScriptSections}
use Rattle.thp_worker.specs.declared.reply.Answer.{Answer}
use Rattle.thp_worker.specs.declared.reply.SectionLog.{SectionLog}
use Rattle.thp_worker.specs.Prelude.{Open, Made, IsMade, ComesBefore, Carries, Turn, IsTurn, turn_command, steps_of, own_events, batches_after, closing, answers_from}

-- no batch is open
abbrev pub no_batches : ℕ → Option Open
no_batches n = None

-- the step comes after the whole of setup
abbrev pub IsAfterSetup : (ℕ → History) → Made → Type 0
IsAfterSetup history m = length (events_of 0 (history m.node)) ≤ m.before

-- the step comes within setup, whose events are caller 0's
abbrev pub IsWithinSetup : (ℕ → History) → Made → Type 0
IsWithinSetup history m = m.before + length m.own ≤ length (events_of 0 (history m.node))

-- The section of caller c. With these turns it executed its commands, in order, and these are their answers; then it put back the
-- batches left open, in ascending order of nodes. The steps of all turns are in the histories in this order, each begins with the
-- open batch that the ones before it left, and they are all that the caller did. Setup's steps end before all others begin.
pub record IsSection (nodes : ℕ) (shape : ℕ → Shape) (history : ℕ → History) (c : ℕ) (commands : List Command) (answers : List Answer) : Type 0 where
  pub turns : List Turn
  pub closed : List Turn
  pub each : All IsTurn (turns ++ closed)
  pub done : map turn_command turns ≡ commands
  pub answered : answers ≡ answers_from 0 turns
  pub closes : map turn_command closed ≡ closing nodes (batches_after no_batches (steps_of turns))
  pub stand : All (IsMade shape history c) (steps_of (turns ++ closed))
  pub in_order : AllPairs ComesBefore (steps_of (turns ++ closed))
  pub carries : Carries no_batches (steps_of (turns ++ closed))
  pub whole : (n : ℕ) → events_of c (history n) ≡ own_events n (steps_of (turns ++ closed))
  pub within_setup : c ≡ 0 → All (IsWithinSetup history) (steps_of (turns ++ closed))
  pub after_setup : 0 < c → All (IsAfterSetup history) (steps_of (turns ++ closed))

-- the commands of the sections by number: `setup` is section 0, and the section of worker k is section k
abbrev pub sections_of : ScriptSections → List (List Command)
sections_of script = script.setup ∷ script.workers

-- the answers are those of section k, executed by caller k
pub record IsAnswered (nodes : ℕ) (shape : ℕ → Shape) (history : ℕ → History) (k : ℕ) (commands : List Command) (section : SectionLog) : Type 0 where
  pub number : section.worker ≡ k
  pub done : IsSection nodes shape history k commands section.answers.items

-- A run of a script on so many nodes of these shapes results in these histories and these answers. Setup is executed by caller 0,
-- before all others, and the section of worker k by caller k; no other caller does anything.
pub record IsRun (nodes : ℕ) (shape : ℕ → Shape) (script : ScriptSections) (history : ℕ → History) (sections : List SectionLog) : Type 0 where
  pub legal : (n : ℕ) → IsLegal (shape n) (history n)
  pub count : length sections ≡ length (sections_of script)
  pub each : (k : ℕ) (commands : List Command) (section : SectionLog) → slice_get (sections_of script) k ≡ Some commands → slice_get sections k ≡ Some section → IsAnswered nodes shape history k commands section
  pub setup_first : (n : ℕ) → (later : History) × (history n ≡ events_of 0 (history n) ++ later)
  pub nobody_else : (n : ℕ) → All (λ (e : Event). e.caller ≤ length script.workers) (history n)
