-- The input and the output of a run.
use Rattle.std.specs.Prelude.{◌≡◌, ℕ, Bool, List, map, Option, Result, Ok, Err}
use Rattle.thp_node.specs.Prelude.{NodeState}
use Rattle.thp_run.specs.Reports.{report_of, reported_journal}
use Rattle.thp_run.specs.NewNodes.{histories_of, shapes_of, AreNodesFor}
use Rattle.thp_run.specs.Runs.{IsRun}
use Rattle.thp_worker.specs.declared.reply.SectionLog.{SectionLog}
use Rattle.thp_script.specs.declared.script.ScriptSections.{ScriptSections}
use Rattle.thp_script.specs.declared.settings.Settings.{Settings}
use Rattle.thp_script.specs.Prelude.{script_of}
use Rattle.thp_cli.specs.declared.fault.RunFault.{RunFault}
use Rattle.thp_cli.specs.Prelude.{PassageEnds}

-- the text is the report that the settings select, of a run of the input's script
pub record IsReport (s : Settings) (input text : List ℕ) : Type 0 where
  pub script : ScriptSections
  pub spelled : script_of s input ≡ Ok script
  pub nodes : List NodeState
  pub nodes_are : AreNodesFor s nodes
  pub sections : List SectionLog
  pub is_run : IsRun s.nodes (shapes_of nodes) script (histories_of nodes) sections
  pub written : text ≡ report_of s.report (map reported_journal nodes) sections

-- how a run ends: with its report, or with the first error of the script
abbrev pub RunEnds : Settings → Option (List ℕ) → Option (List ℕ) → Option (List ℕ) → Bool → Bool → Result (Unit {0}) (RunFault ℕ) → Type 0
RunEnds s = PassageEnds (λ input _ text. IsReport s input text) (λ input fault. script_of s input ≡ Err fault)
