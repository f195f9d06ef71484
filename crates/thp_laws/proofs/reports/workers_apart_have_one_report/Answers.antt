use Rattle.thp_laws.proofs.SameReports.{one_report, one_writing}
use Rattle.thp_laws.proofs.SpelledWorkers.{one_is_spelled, setting_is_apart}
use Rattle.thp_laws.proofs.reports.workers_apart_have_one_report.Goals as goal

pub returns-clause-one : goal.returns-clause-one
returns-clause-one c = one_is_spelled

pub returns-clause-setting : goal.returns-clause-setting
returns-clause-setting c = setting_is_apart

pub returns-clause-report : goal.returns-clause-report
returns-clause-report c = one_report

pub returns-clause-written : goal.returns-clause-written
returns-clause-written c = one_writing
