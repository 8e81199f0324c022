use Rattle.xc_flight.proofs.LateReady.{next_ready}
use Rattle.xc_flight.proofs.turns.a_late_call_is_ready.Goals as goal

pub returns : goal.returns
returns c = λ s job t front rest call f sound split. next_ready s job t call front rest f.all f.active f.phase sound split
