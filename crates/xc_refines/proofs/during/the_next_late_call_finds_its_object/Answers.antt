use Rattle.xc_refines.proofs.NextLate.{late_there}
use Rattle.xc_refines.proofs.during.the_next_late_call_finds_its_object.Goals as goal

pub returns : goal.returns
returns c = λ s now at tx call calls told all active commits left. late_there s now all at active.0 tx call calls active.1 active.2 commits left
