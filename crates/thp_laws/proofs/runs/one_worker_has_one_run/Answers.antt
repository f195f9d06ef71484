use Rattle.thp_laws.proofs.WorkersApart.{one_worker}
use Rattle.thp_laws.proofs.runs.one_worker_has_one_run.Goals as goal

pub returns : goal.returns
returns c = one_worker
