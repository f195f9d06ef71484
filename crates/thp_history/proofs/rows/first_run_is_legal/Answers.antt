use Rattle.thp_history.proofs.WorkedRows.{first_run-legal, first_run-totals}
use Rattle.thp_history.proofs.rows.first_run_is_legal.Goals as goal

pub returns-clause-legal : goal.returns-clause-legal
returns-clause-legal c = first_run-legal

pub returns-clause-totals : goal.returns-clause-totals
returns-clause-totals c = first_run-totals
