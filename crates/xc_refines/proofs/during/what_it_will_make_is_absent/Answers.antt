use Rattle.xc_refines.proofs.NewNumbers.{absent_now}
use Rattle.xc_refines.proofs.during.what_it_will_make_is_absent.Goals as goal

pub returns : goal.returns
returns c = λ s now at tx k told all active runs le. absent_now s now all at active.0 tx active.1 active.2 runs k le
