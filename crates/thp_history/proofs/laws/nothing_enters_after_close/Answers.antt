use Rattle.thp_history.proofs.FlightLaws.{none_enters}
use Rattle.thp_history.proofs.laws.nothing_enters_after_close.Goals as goal

pub returns : goal.returns
returns c = none_enters
