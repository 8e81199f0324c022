use Rattle.xc_world.proofs.Sound.{others_sound}
use Rattle.xc_world.proofs.law.a_call_keeps_others_sound.Goals as goal

pub returns : goal.returns
returns c = others_sound
