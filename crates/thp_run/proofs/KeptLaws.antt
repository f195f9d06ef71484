-- Reports of the answers that a run kept.
use Rattle.std.proofs.Common.{◌≡◌, ℕ, List, [], ◌∷◌, ◌∙◌, ap, map, refl, Ok, All}
use Rattle.std.proofs.lemmas.List.Elements.{All-head, All-tail}
use Rattle.thp_node.specs.Prelude.{NodeState}
use Rattle.thp_run.specs.Answers.{answers_text, with_stored}
use Rattle.thp_run.specs.Reports.{journal_shape, report_of, reported_journal}
use Rattle.thp_run.specs.NewNodes.{histories_of, shapes_of, AreNodesFor}
use Rattle.thp_run.specs.Runs.{IsRun}
use Rattle.thp_run.specs.Sections.{SectionAnswersAre}
use Rattle.thp_worker.specs.declared.answer_log.Answers.TheVariants.{Kept}
use Rattle.thp_worker.specs.declared.reply.SectionLog.{SectionLog}
use Rattle.thp_worker.specs.Prelude.{if_kept}
use Rattle.thp_script.specs.declared.script.ScriptSections.{ScriptSections}
use Rattle.thp_script.specs.declared.settings.Report.{Report}
use Rattle.thp_script.specs.declared.settings.Report.TheVariants as report
use Rattle.thp_script.specs.declared.settings.Settings.{Settings}
use Rattle.thp_script.specs.Prelude.{script_of}
use Rattle.thp_run.specs.Programs.{IsReport}

-- where each section stores its answers, these are all
all_kept : (sections : List SectionLog) → All (SectionAnswersAre Kept) sections → map with_stored sections ≡ sections
all_kept [] all = refl
all_kept (s ∷ sections) all =
    let one : with_stored s ≡ s = ap (λ are. record s { answers = record s.answers { items = if_kept are s.answers.items } }) (All-head (SectionAnswersAre Kept) s sections all) in
    ap (λ x. x ∷ map with_stored sections) one ∙ ap (λ rest. s ∷ rest) (all_kept sections (All-tail (SectionAnswersAre Kept) s sections all))

-- a report doesn't look at answers, or all of them are kept
kept_report : (r : Report) (nodes : List NodeState) (sections : List SectionLog) → (r ≡ report.Answers → All (SectionAnswersAre Kept) sections) →
    report_of r (map reported_journal nodes) (map with_stored sections) ≡ report_of r (map reported_journal nodes) sections
kept_report report.Totals nodes sections kept = refl
kept_report report.Journal nodes sections kept = refl
kept_report report.Answers nodes sections kept = ap (answers_text (map journal_shape (map reported_journal nodes))) (all_kept sections (kept refl))

-- the text is the report of each input that spells the script
abbrev pub IsReportOf : Settings → ScriptSections → List ℕ → Type 0
IsReportOf s script text = (input : List ℕ) → script_of s input ≡ Ok script → IsReport s input text

-- what is reported of a run is its report
pub is_report : (s : Settings) (script : ScriptSections) (nodes : List NodeState) (sections : List SectionLog) (text : List ℕ) → AreNodesFor s nodes →
    IsRun s.nodes (shapes_of nodes) script (histories_of nodes) sections → text ≡ report_of s.report (map reported_journal nodes) sections → IsReportOf s script text
is_report s script nodes sections text made run reported = λ input spelled. record {
  script = script;
  spelled = spelled;
  nodes = nodes;
  nodes_are = made;
  sections = sections;
  is_run = run;
  written = reported;
}

-- and so is what is reported of the answers that it kept
pub is_kept_report : (s : Settings) (script : ScriptSections) (nodes : List NodeState) (sections kept : List SectionLog) (text : List ℕ) → AreNodesFor s nodes →
    IsRun s.nodes (shapes_of nodes) script (histories_of nodes) sections → (s.report ≡ report.Answers → All (SectionAnswersAre Kept) sections) → kept ≡ map with_stored sections →
    text ≡ report_of s.report (map reported_journal nodes) kept → IsReportOf s script text
is_kept_report s script nodes sections kept text made run all is reported =
    is_report s script nodes sections text made run (reported ∙ ap (report_of s.report (map reported_journal nodes)) is ∙ kept_report s.report nodes sections all)
