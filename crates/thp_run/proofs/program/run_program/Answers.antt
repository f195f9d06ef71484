use Rattle.std.proofs.Common.{Err}
use Rattle.thp_run.proofs.program.run_program.Goals as goal

pub returns : goal.returns
returns g c = record { end = Err c.in-Err.fault; served = c.in-Err.ensures; reported = c.report_fault.ensures }
