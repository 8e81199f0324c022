use Rattle.xc_flight.proofs.Sounding.{touches_open}
use Rattle.xc_flight.proofs.Calling.{all_noted}
use Rattle.xc_flight.proofs.turns.a_call_touches_no_new_object_of_another.Goals as goal

pub returns : goal.returns
returns c = λ s job t f sound. touches_open s job t f.all f.active sound (all_noted s job t f.all f.active f.phase)
