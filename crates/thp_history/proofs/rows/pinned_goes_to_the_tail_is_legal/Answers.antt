use Rattle.thp_history.proofs.WorkedRows.{pinned_goes_to_the_tail-legal, pinned_goes_to_the_tail-totals}
use Rattle.thp_history.proofs.rows.pinned_goes_to_the_tail_is_legal.Goals as goal

pub returns-clause-legal : goal.returns-clause-legal
returns-clause-legal c = pinned_goes_to_the_tail-legal

pub returns-clause-totals : goal.returns-clause-totals
returns-clause-totals c = pinned_goes_to_the_tail-totals
