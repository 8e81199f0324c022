use Rattle.xc_flight.proofs.Claiming.{claims_apart}
use Rattle.xc_flight.proofs.turns.compatible_claims_are_apart.Goals as goal

pub returns : goal.returns
returns c = claims_apart
