-- The report of a run as text.
use Rattle.std.specs.Prelude.{ℕ, List, map}
use Rattle.thp_journal_writer.specs.Prelude.{Journal, journal_text, totals_text}
use Rattle.thp_history.specs.declared.shape.Shape.{Shape}
use Rattle.thp_node.specs.Prelude.{NodeState}
use Rattle.thp_run.specs.Answers.{answers_text}
use Rattle.thp_script.specs.declared.settings.Report.{Report}
use Rattle.thp_script.specs.declared.settings.Report.TheVariants as report
use Rattle.thp_worker.specs.declared.reply.SectionLog.{SectionLog}

-- the data about a node in reports: its shape, and its events
abbrev pub reported_journal : NodeState → Journal
reported_journal n = (n.shape, n.journal)

abbrev pub shape_of : NodeState → Shape
shape_of n = n.shape

-- the shape of such a node
abbrev pub journal_shape : Journal → Shape
journal_shape node = node.0

-- the output at the end of a run, from its nodes and the answers of its sections
abbrev pub report_of : Report → List Journal → List SectionLog → List ℕ
report_of report.Totals nodes sections = totals_text nodes
report_of report.Journal nodes sections = journal_text nodes
report_of report.Answers nodes sections = answers_text (map journal_shape nodes) sections
