use Rattle.thp_laws.proofs.WorkersApart.{one_run}
use Rattle.thp_laws.proofs.runs.workers_apart_have_one_run.Goals as goal

pub returns : goal.returns
returns c = one_run
