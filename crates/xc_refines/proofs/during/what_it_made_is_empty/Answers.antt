use Rattle.xc_refines.proofs.NewEmpty.{made_empty}
use Rattle.xc_refines.proofs.during.what_it_made_is_empty.Goals as goal

pub returns : goal.returns
returns c = λ s now at tx why older u all active undoes pending. made_empty s now all at active.0 tx why older u active.1 active.2 undoes pending
