use Rattle.xc_flight.proofs.Together.{begin_sound}
use Rattle.xc_flight.proofs.soundness.a_begin_keeps_all_sound.Goals as goal

pub returns : goal.returns
returns c = begin_sound
