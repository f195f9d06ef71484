use Rattle.thp_history.proofs.FlightLaws.{left_alone, new_once}
use Rattle.thp_history.proofs.laws.freed_pages_are_left_alone.Goals as goal

pub returns-clause-live : goal.returns-clause-live
returns-clause-live c = left_alone

pub returns-clause-new : goal.returns-clause-new
returns-clause-new c = new_once
