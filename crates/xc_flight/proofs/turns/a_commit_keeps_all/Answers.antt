use Rattle.xc_flight.proofs.Ending.{commits}
use Rattle.xc_flight.proofs.turns.a_commit_keeps_all.Goals as goal

pub returns : goal.returns
returns c = λ s job t f. commits s job t f.all f.active f.phase
