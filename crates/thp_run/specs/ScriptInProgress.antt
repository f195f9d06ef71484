-- A script that is run while it is read.
use Rattle.std.specs.Prelude.{◌≡◌, ℕ, Bool, true, false, List, ◌++◌, All, IfSome, Option, Result, Ok, length, Err}
use Rattle.thp_cell.specs.Prelude.{PassState}
use Rattle.thp_node.specs.Prelude.{NodeState}
use Rattle.thp_cli.specs.declared.fault.RunFault.{RunFault}
use Rattle.thp_cli.specs.declared.fault.RunFault.TheVariants.{Text, OutOfMemory, Read, Write}
use Rattle.thp_run.specs.NewNodes.{histories_of, shapes_of, AreNodesFor}
use Rattle.thp_run.specs.Runs.{IsRun}
use Rattle.thp_run.specs.Sections.{SectionAnswersAre}
use Rattle.thp_run.specs.Sharing.{RunsOn}
use Rattle.thp_worker.specs.declared.answer_log.Answers.TheVariants.{Kept}
use Rattle.thp_worker.specs.declared.reply.SectionOutcome.{SectionOutcome}
use Rattle.thp_worker.specs.declared.reply.SectionLog.{SectionLog}
use Rattle.thp_worker.specs.Prelude.{Fronts, Goes, HoldsAllCallers, HoldsCaller, DidFirst}
use Rattle.thp_run.specs.Passes.{fronts_in, Passes}
use Rattle.thp_script.specs.declared.script.Command.{Command}
use Rattle.thp_script.specs.declared.script.ScriptSections.{ScriptSections}
use Rattle.thp_script.specs.declared.settings.Report.TheVariants.{Answers}
use Rattle.thp_script.specs.declared.settings.Settings.{Settings}
use Rattle.thp_script.specs.Prelude.{after_setup, read_after, spelled_with, ReadSoFar, script_of, Fault, IsInputOf}

-- the script is for the nodes of the passes, which have all callers
pub record IsScriptInProgress (script : ReadSoFar) (passes : Passes) (setup : SectionOutcome) : Type 0 where
  pub nodes : length passes.held ≡ script.settings.nodes
  pub all : HoldsAllCallers (fronts_in passes)
  pub some : HoldsCaller (fronts_in passes) 0
  pub opened : length setup.opened.items ≡ length passes.held

-- From these bytes some commands of `setup` were read, and caller 0 executed them.
pub record HasRead (script : ReadSoFar) (passes : Passes) (setup : SectionOutcome) (bytes : List ℕ) (script' : ReadSoFar) (passes' : Passes) (setup' : SectionOutcome) : Type 0 where
  pub commands : List Command
  pub text : (more : List ℕ) → spelled_with script (bytes ++ more) ≡ read_after commands (spelled_with script' more)
  pub settings : script'.settings ≡ script.settings
  pub goes : Goes 0 (fronts_in passes) (fronts_in passes')
  pub did : (first : Fronts) (before : List Command) → DidFirst 0 first (fronts_in passes) before setup → DidFirst 0 first (fronts_in passes') (before ++ commands) setup'
  pub answers : setup'.answers.are ≡ setup.answers.are

-- the rest of a script was read and executed, after these commands of its `setup`
pub record RunsOnRest (old : List PassState) (read : Result ScriptSections Fault) (before : List Command) (new : List PassState) (sections : List SectionLog) : Type 0 where
  pub rest : ScriptSections
  pub is : read ≡ Ok rest
  pub runs : RunsOn old new (after_setup before rest) sections

-- the input's script was run by these passes
pub record RunsInput (s : Settings) (input : Option (List ℕ)) (old new : List PassState) (sections : List SectionLog) : Type 0 where
  pub bytes : List ℕ
  pub read : IfSome input (IsInputOf bytes)
  pub script : ScriptSections
  pub spelled : script_of s bytes ≡ Ok script
  pub runs : RunsOn old new script sections
  pub kept : s.report ≡ Answers → All (SectionAnswersAre Kept) sections

-- the input's script was run on nodes as the settings describe
pub record HasRun (s : Settings) (input : Option (List ℕ)) (nodes : List NodeState) (sections : List SectionLog) : Type 0 where
  pub bytes : List ℕ
  pub read : IfSome input (IsInputOf bytes)
  pub script : ScriptSections
  pub spelled : script_of s bytes ≡ Ok script
  pub nodes_are : AreNodesFor s nodes
  pub is_run : IsRun s.nodes (shapes_of nodes) script (histories_of nodes) sections
  pub kept : s.report ≡ Answers → All (SectionAnswersAre Kept) sections

-- the input is not a script, with this first error
pub record HasFault (s : Settings) (input : Option (List ℕ)) (fault : Fault) : Type 0 where
  pub bytes : List ℕ
  pub read : IfSome input (IsInputOf bytes)
  pub reported : script_of s bytes ≡ Err fault

-- why no script was run: a failed read sets the reader's flag, and nothing else does
abbrev pub EndsBeforeRun : Settings → Option (List ℕ) → Bool → RunFault ℕ → Type 0
EndsBeforeRun s input failed (Text line kind) = (failed ≡ false) × HasFault s input (line, kind)
EndsBeforeRun s input failed OutOfMemory = failed ≡ false
EndsBeforeRun s input failed Read = failed ≡ true
EndsBeforeRun s input failed Write = ⊥
