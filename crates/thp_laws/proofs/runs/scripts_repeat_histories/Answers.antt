use Rattle.thp_laws.proofs.RepeatedRuns.{repeats_histories}
use Rattle.thp_laws.proofs.runs.scripts_repeat_histories.Goals as goal

pub returns : goal.returns
returns c = repeats_histories
