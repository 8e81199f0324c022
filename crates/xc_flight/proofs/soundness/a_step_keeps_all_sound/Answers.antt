use Rattle.xc_flight.proofs.Together.{turn_keeps_sound}
use Rattle.xc_flight.proofs.soundness.a_step_keeps_all_sound.Goals as goal

pub returns : goal.returns
returns c = turn_keeps_sound
