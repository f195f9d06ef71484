use Rattle.thp_run.proofs.TotalsLaws.{totals_blind}
use Rattle.thp_run.proofs.report.totals_report_no_block.Goals as goal

pub returns : goal.returns
returns c = totals_blind
