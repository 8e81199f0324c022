use Rattle.xc_flight.proofs.Together.{called_with_claims}
use Rattle.xc_flight.proofs.turns.a_call_with_claims_keeps_all.Goals as goal

pub returns : goal.returns
returns c = λ s job t asked held writes f. called_with_claims s job t asked held writes f.all f.active f.phase
