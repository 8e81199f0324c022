use Rattle.xc_flight.proofs.Calling.{sees}
use Rattle.xc_flight.proofs.turns.what_one_has_it_sees.Goals as goal

pub returns : goal.returns
returns c = λ s job t f. sees s job t f.all f.active f.phase
