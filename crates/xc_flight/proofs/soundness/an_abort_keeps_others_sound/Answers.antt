use Rattle.xc_flight.proofs.Aborting.{abort_sound}
use Rattle.xc_flight.proofs.soundness.an_abort_keeps_others_sound.Goals as goal

pub returns : goal.returns
returns c = λ s job t now f. abort_sound s job t f now
