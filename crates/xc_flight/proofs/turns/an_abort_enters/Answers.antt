use Rattle.xc_flight.proofs.Undoing.{abort_enters}
use Rattle.xc_flight.proofs.turns.an_abort_enters.Goals as goal

pub returns : goal.returns
returns c = λ s job t f. abort_enters s job t f.all f.active f.phase
