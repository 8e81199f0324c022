use Rattle.xc_world.proofs.EffectsBody.{body-sound}
use Rattle.xc_world.proofs.effects.a_body_keeps_all_sound.Goals as goal

pub returns : goal.returns
returns c = body-sound
