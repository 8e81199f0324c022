use Rattle.xc_world.proofs.Sound.{act_sound}
use Rattle.xc_world.proofs.law.a_call_keeps_all_sound.Goals as goal

pub returns : goal.returns
returns c = act_sound
