use Rattle.xc_flight.proofs.Claiming.{merged_held}
use Rattle.xc_flight.proofs.turns.merged_claims_hold_the_same.Goals as goal

pub returns : goal.returns
returns c = merged_held
