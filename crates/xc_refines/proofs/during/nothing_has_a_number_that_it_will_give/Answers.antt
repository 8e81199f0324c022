use Rattle.xc_refines.proofs.NewNumbers.{free_now}
use Rattle.xc_refines.proofs.during.nothing_has_a_number_that_it_will_give.Goals as goal

pub returns : goal.returns
returns c = λ s now at tx k all active runs le. free_now s now all at active.0 tx active.1 active.2 runs k le
