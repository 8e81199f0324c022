use Rattle.xc_refines.proofs.NewEmpty.{not_taken_from}
use Rattle.xc_refines.proofs.during.nobody_took_from_what_is_undone.Goals as goal

pub returns : goal.returns
returns c = λ s now at j tx other why older u k all active undoes pending too took among.
    not_taken_from s now all at active.0 tx why older u active.1 active.2 undoes pending j too.0 other k too.1 too.2 took among
