use Rattle.xc_flight.proofs.Undoing.{undoes}
use Rattle.xc_flight.proofs.turns.a_compensation_keeps_all.Goals as goal

pub returns : goal.returns
returns c = λ s job t older u end f sound newest. undoes s job t older u end f.all f.active f.phase sound newest
