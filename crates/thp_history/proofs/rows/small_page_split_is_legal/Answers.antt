use Rattle.thp_history.proofs.WorkedRows.{small_page_split-legal, small_page_split-totals}
use Rattle.thp_history.proofs.rows.small_page_split_is_legal.Goals as goal

pub returns-clause-legal : goal.returns-clause-legal
returns-clause-legal c = small_page_split-legal

pub returns-clause-totals : goal.returns-clause-totals
returns-clause-totals c = small_page_split-totals
