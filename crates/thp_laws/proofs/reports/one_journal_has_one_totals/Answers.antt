use Rattle.thp_laws.proofs.OneTotals.{one_totals}
use Rattle.thp_laws.proofs.reports.one_journal_has_one_totals.Goals as goal

pub returns : goal.returns
returns c = one_totals
