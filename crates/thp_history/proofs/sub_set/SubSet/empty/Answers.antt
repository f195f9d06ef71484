use Rattle.thp_history.proofs.WordLemmas.{none_set}
use Rattle.thp_history.proofs.sub_set.SubSet.empty.Goals as goal

pub returns : goal.returns
returns c = none_set
