use Rattle.xc_refines.proofs.NextRecord.{covered_now}
use Rattle.xc_refines.proofs.during.the_next_record_is_covered.Goals as goal

pub returns : goal.returns
returns c = λ s now at tx why told all active undoes older u pending way. covered_now s now all at active.0 tx why older u active.1 active.2 undoes pending way
