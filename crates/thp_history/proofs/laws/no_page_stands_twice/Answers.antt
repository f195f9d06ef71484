use Rattle.thp_history.proofs.FlightLaws.{stands_whole}
use Rattle.thp_history.proofs.Standing.{once_of_legal}
use Rattle.thp_history.proofs.laws.no_page_stands_twice.Goals as goal

pub returns-clause-once : goal.returns-clause-once
returns-clause-once c = once_of_legal

pub returns-clause-whole : goal.returns-clause-whole
returns-clause-whole c = stands_whole
