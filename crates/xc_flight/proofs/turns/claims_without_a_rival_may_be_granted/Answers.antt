use Rattle.xc_flight.proofs.Together.{call_granted}
use Rattle.xc_flight.proofs.turns.claims_without_a_rival_may_be_granted.Goals as goal

pub returns : goal.returns
returns c = λ s job t call words f. call_granted s job t call words f.all f.active f.phase
