use Rattle.thp_laws.proofs.TotalsAlike.{one_run, one_total}
use Rattle.thp_laws.proofs.journals.one_text_is_of_one_run.Goals as goal

pub returns-clause-same : goal.returns-clause-same
returns-clause-same c = one_run

pub returns-clause-totals : goal.returns-clause-totals
returns-clause-totals c = one_total
