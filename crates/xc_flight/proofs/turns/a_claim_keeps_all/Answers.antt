use Rattle.xc_flight.proofs.Claiming.{claims_keep}
use Rattle.xc_flight.proofs.turns.a_claim_keeps_all.Goals as goal

pub returns : goal.returns
returns c = λ s job t claims held f granted same. claims_keep s job t claims held f.all f.active granted same f.phase
