use Rattle.thp_laws.proofs.SameReports.{one_report}
use Rattle.thp_laws.proofs.SpelledWorkers.{setting_is_apart}
use Rattle.thp_laws.proofs.reports.one_worker_has_one_report.Goals as goal

pub returns : goal.returns
returns c = λ s input text other few. one_report s input text other (setting_is_apart s input few)
