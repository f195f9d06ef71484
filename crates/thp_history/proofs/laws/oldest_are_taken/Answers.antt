use Rattle.thp_history.proofs.FlightLaws.{oldest}
use Rattle.thp_history.proofs.laws.oldest_are_taken.Goals as goal

pub returns : goal.returns
returns c = oldest
