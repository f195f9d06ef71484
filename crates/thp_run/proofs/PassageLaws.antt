-- How a run ends, from what its parts did.
use Rattle.std.proofs.Common.{◌≡◌, ◌∙◌, ℕ, Bool, true, false, List, Option, Some, Ok, Err, arith, map, sym, IfNone, IfSome, Result, ok_or, append-nil, length-append}
use Rattle.std.specs.Io.KnownBytes.{Appends}
use Rattle.std.proofs.lemmas.Bool.{cases_lt}
use Rattle.thp_script.specs.declared.script.ScriptSections.{ScriptSections}
use Rattle.thp_script.specs.declared.settings.Settings.{Settings}
use Rattle.thp_script.specs.Prelude.{Fault, script_of, IsInputOf}
use Rattle.thp_script.proofs.ScriptLaws.{too_long}
use Rattle.thp_cli.specs.declared.fault.RunFault.{RunFault}
use Rattle.thp_cli.specs.declared.fault.RunFault.TheVariants.{Write}
use Rattle.thp_cli.specs.Prelude.{WritesFront}
use Rattle.thp_cli.proofs.PassageLaws.{ends_early, keeps_same}
use Rattle.thp_node.specs.Prelude.{NodeState}
use Rattle.thp_run.specs.Reports.{report_of, reported_journal}
use Rattle.thp_worker.specs.declared.reply.SectionLog.{SectionLog}
use Rattle.thp_run.specs.Answers.{with_stored}
use Rattle.thp_run.specs.Programs.{IsReport, RunEnds}
use Rattle.thp_run.specs.ScriptInProgress.{HasRun, EndsBeforeRun}
use Rattle.thp_run.specs.Written.{Wrote}
use Rattle.thp_run.proofs.KeptLaws.{is_kept_report, is_report, IsReportOf}

pub same_script : (s : Settings) (input bytes : List ℕ) → IsInputOf bytes input → script_of s bytes ≡ script_of s input
same_script s input bytes read = grind (arith, cases_lt, too_long, length-append, append-nil)

pub report_of_input : (s : Settings) (input bytes text : List ℕ) (u : Unit {0}) → IsInputOf bytes input → IsReport s bytes text → IsReport s input text
report_of_input s input bytes text u read r = record { script = r.script; spelled = sym (same_script s input bytes read) ∙ r.spelled; nodes = r.nodes; nodes_are = r.nodes_are; sections = r.sections; is_run = r.is_run; written = r.written }

pub fault_of_script : (s : Settings) (input bytes : List ℕ) (fault : Fault) → IsInputOf bytes input → script_of s bytes ≡ Err fault → script_of s input ≡ Err fault
fault_of_script s input bytes fault read reported = sym (same_script s input bytes read) ∙ reported

-- how a run ends on what was read of an input is how it ends on the input
pub ends_of_input : (s : Settings) (known old new : Option (List ℕ)) (bytes : List ℕ) (reader_failed writer_failed : Bool) (r : Result (Unit {0}) (RunFault ℕ)) → IfSome known (IsInputOf bytes)
    → RunEnds s (Some bytes) old new false writer_failed r → reader_failed ≡ false → RunEnds s known old new reader_failed writer_failed r
ends_of_input s y old new bytes rf wf z read x e = grind (arith, report_of_input, fault_of_script)

-- what holds anyway holds where nothing was given
pub none_has : (o : Option (Unit {0})) (P : Type 0) → P → IfNone o P
none_has x y p = grind arith

-- a text was written, or a front of it
pub wrote_by : (text : List ℕ) (old new : Option (List ℕ)) (failed : Bool) (o : Option (Unit {0})) → IfSome o (λ _. Appends old new text) → IfNone o (WritesFront old new text)
    → IfSome o (λ _. failed ≡ false) → IfNone o (failed ≡ true) → Wrote text old new failed (ok_or o Write)
wrote_by text old new failed x done cut flag set = grind arith

-- so ends a run whose report the text is
pub wrote_ends : (s : Settings) (script : ScriptSections) (text : List ℕ) (old new : Option (List ℕ)) (failed : Bool) (r : Result (Unit {0}) (RunFault ℕ)) → IsReportOf s script text → Wrote text old new failed r
    → (input : List ℕ) → script_of s input ≡ Ok script → RunEnds s (Some input) old new false failed r
wrote_ends s script text old new failed x is w input spelled = grind arith

-- a script was run, and its report was written, or a front of it
pub run_wrote : (s : Settings) (known : Option (List ℕ)) (nodes : List NodeState) (sections : List SectionLog) (text : List ℕ) (old new : Option (List ℕ)) (reader_failed writer_failed : Bool) (r : Result (Unit {0}) (RunFault ℕ)) → HasRun s known nodes sections
    → text ≡ report_of s.report (map reported_journal nodes) sections → Wrote text old new writer_failed r → reader_failed ≡ false → RunEnds s known old new reader_failed writer_failed r
run_wrote s known nodes sections text old new rf wf r ran reported w e = grind (arith, ends_of_input, wrote_ends, is_report)

-- the same of the answers that it kept
pub run_wrote_kept : (s : Settings) (known : Option (List ℕ)) (nodes : List NodeState) (sections : List SectionLog) (text : List ℕ) (old new : Option (List ℕ)) (reader_failed writer_failed : Bool) (r : Result (Unit {0}) (RunFault ℕ)) → HasRun s known nodes sections
    → text ≡ report_of s.report (map reported_journal nodes) (map with_stored sections) → Wrote text old new writer_failed r → reader_failed ≡ false → RunEnds s known old new reader_failed writer_failed r
run_wrote_kept s known nodes sections text old new rf wf r ran reported w e = grind (arith, ends_of_input, wrote_ends, is_kept_report)

-- no script was run
pub not_run_ends : (s : Settings) (known old : Option (List ℕ)) (reader_failed writer_failed : Bool) (fault : RunFault ℕ) (r : Result (Unit {0}) (RunFault ℕ)) → EndsBeforeRun s known reader_failed fault → writer_failed ≡ false → r ≡ Err fault → RunEnds s known old old reader_failed writer_failed r
not_run_ends s known old rf wf x r n f is = grind (arith, ends_early, report_of_input, fault_of_script, keeps_same)
