use Rattle.xc_flight.proofs.Rows.{starts}
use Rattle.xc_flight.proofs.flying.an_opening_is_in_flight.Goals as goal

pub returns : goal.returns
returns c = starts
