use Rattle.xc_refines.proofs.ClaimedThere.{claimed_there}
use Rattle.xc_refines.proofs.during.what_a_call_claims_is_there.Goals as goal

pub returns : goal.returns
returns c = λ s now at tx call h all active runs alone touched. claimed_there s now all at active.0 tx call active.1 active.2 runs alone h touched
