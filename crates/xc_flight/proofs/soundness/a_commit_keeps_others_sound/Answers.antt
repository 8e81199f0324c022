use Rattle.xc_flight.proofs.Sounding.{sound_after}
use Rattle.xc_flight.proofs.soundness.a_commit_keeps_others_sound.Goals as goal

pub returns : goal.returns
returns c = λ s job t now f sound. sound_after s job t f.all sound f.active f.phase now
