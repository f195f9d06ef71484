use Rattle.thp_history.proofs.WorkedRows.{underused_scan-legal, underused_scan-totals}
use Rattle.thp_history.proofs.rows.underused_scan_is_legal.Goals as goal

pub returns-clause-legal : goal.returns-clause-legal
returns-clause-legal c = underused_scan-legal

pub returns-clause-totals : goal.returns-clause-totals
returns-clause-totals c = underused_scan-totals
