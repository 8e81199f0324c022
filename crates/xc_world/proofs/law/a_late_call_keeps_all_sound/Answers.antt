use Rattle.xc_world.proofs.SoundLate.{late_sound}
use Rattle.xc_world.proofs.law.a_late_call_keeps_all_sound.Goals as goal

pub returns : goal.returns
returns c = late_sound
