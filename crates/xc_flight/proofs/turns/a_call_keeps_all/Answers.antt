use Rattle.xc_flight.proofs.Calling.{called}
use Rattle.xc_flight.proofs.turns.a_call_keeps_all.Goals as goal

pub returns : goal.returns
returns c = λ s job t asked writes f may noted. called s job t asked writes f.all f.active f.phase may noted
