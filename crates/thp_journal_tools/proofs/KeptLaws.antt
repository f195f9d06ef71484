-- What is kept of a node is what a check's results say.
use Rattle.thp_journal_writer.specs.declared.totals.Totals.{Totals}
use Rattle.thp_journal_reader.specs.declared.journals.ReadNode.{ReadNode}
use Rattle.thp_journal_reader.specs.Prelude.{IsStored}
use Rattle.thp_journal_tools.specs.Keeping.{KeepsTotals}
use Rattle.thp_journal_tools.specs.Summaries.{IsSummary}

pub as_summary : (node : ReadNode) (totals : Totals) → IsStored KeepsTotals node totals → IsSummary node totals
as_summary node totals is = record { front = is.front; legal = is.legal; totals_are = is.kept_is }
