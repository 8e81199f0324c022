use Rattle.xc_world.proofs.EffectsRemains.{remains-sound}
use Rattle.xc_world.proofs.effects.what_remains_is_sound.Goals as goal

pub returns : goal.returns
returns c = remains-sound
