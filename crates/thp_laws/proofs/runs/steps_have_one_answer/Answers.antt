use Rattle.thp_laws.proofs.SameSteps.{one_step}
use Rattle.thp_laws.proofs.runs.steps_have_one_answer.Goals as goal

pub returns : goal.returns
returns c = one_step
