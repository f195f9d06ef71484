use Rattle.thp_history.proofs.FlightLaws.{others_only_free, fronts_stay, batch_in_front}
use Rattle.thp_history.proofs.laws.others_only_free.Goals as goal

pub returns-clause-flight : goal.returns-clause-flight
returns-clause-flight c = others_only_free

pub returns-clause-front : goal.returns-clause-front
returns-clause-front c = fronts_stay

pub returns-clause-batch : goal.returns-clause-batch
returns-clause-batch c = batch_in_front
