use Rattle.xc_flight.proofs.Backing.{backs}
use Rattle.xc_flight.proofs.turns.a_way_back_keeps_all.Goals as goal

pub returns : goal.returns
returns c = λ s job t kept back faults f sound way. backs s job t kept back faults f.all f.active f.phase sound way
