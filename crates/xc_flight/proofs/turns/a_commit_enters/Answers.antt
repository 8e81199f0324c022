use Rattle.xc_flight.proofs.Ending.{commit_enters}
use Rattle.xc_flight.proofs.turns.a_commit_enters.Goals as goal

pub returns : goal.returns
returns c = λ s job t f. commit_enters s job t f.all f.active f.phase
