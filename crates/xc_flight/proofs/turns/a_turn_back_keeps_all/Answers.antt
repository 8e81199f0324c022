use Rattle.xc_flight.proofs.Undoing.{turns_back}
use Rattle.xc_flight.proofs.turns.a_turn_back_keeps_all.Goals as goal

pub returns : goal.returns
returns c = λ s job t f. turns_back s job t f.all f.active f.phase
