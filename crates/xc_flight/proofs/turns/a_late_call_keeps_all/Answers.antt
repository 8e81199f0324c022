use Rattle.xc_flight.proofs.Ending.{does_late}
use Rattle.xc_flight.proofs.turns.a_late_call_keeps_all.Goals as goal

pub returns : goal.returns
returns c = λ s job t call answer f done. does_late s job t call answer f.all f.active f.phase done
