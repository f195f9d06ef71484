use Rattle.thp_history.proofs.WorkedRows.{underused_pinned-legal, underused_pinned-totals}
use Rattle.thp_history.proofs.rows.underused_pinned_is_legal.Goals as goal

pub returns-clause-legal : goal.returns-clause-legal
returns-clause-legal c = underused_pinned-legal

pub returns-clause-totals : goal.returns-clause-totals
returns-clause-totals c = underused_pinned-totals
