use Rattle.xc_world.proofs.EffectsBody.{body-others_sound}
use Rattle.xc_world.proofs.effects.a_body_keeps_others_sound.Goals as goal

pub returns : goal.returns
returns c = body-others_sound
