use Rattle.xc_flight.proofs.Undoing.{wants}
use Rattle.xc_flight.proofs.turns.a_call_without_memory_keeps_all.Goals as goal

pub returns : goal.returns
returns c = λ s job t asked f. wants s job t asked f.all f.active f.phase
