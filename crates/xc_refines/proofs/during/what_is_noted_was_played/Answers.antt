use Rattle.xc_refines.proofs.Noted.{played_there}
use Rattle.xc_refines.proofs.during.what_is_noted_was_played.Goals as goal

pub returns : goal.returns
returns c = λ s now at tx told all active. played_there s now told all at active.0 tx active.1 active.2
