use Rattle.xc_flight.proofs.Rows.{flight_goes_on}
use Rattle.xc_flight.proofs.flying.a_step_keeps_all.Goals as goal

pub returns : goal.returns
returns c = λ s job t u now h active number held keeps flight. flight_goes_on s job t u now h active number held keeps flight
