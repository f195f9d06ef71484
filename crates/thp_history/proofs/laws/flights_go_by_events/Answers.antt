use Rattle.thp_history.proofs.FlightLaws.{flight_none, queue_none}
use Rattle.thp_history.proofs.Flights.{flight_push}
use Rattle.thp_history.proofs.Pushes.{queue_push}
use Rattle.thp_history.proofs.laws.flights_go_by_events.Goals as goal

pub returns-clause-flights : goal.returns-clause-flights
returns-clause-flights c = record { starts = flight_none; goes_on = λ h e d. flight_push h d e.caller e.what }

pub returns-clause-queue : goal.returns-clause-queue
returns-clause-queue c = record { starts = queue_none; goes_on = queue_push }
