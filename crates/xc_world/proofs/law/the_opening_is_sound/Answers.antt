use Rattle.xc_world.proofs.SoundOpening.{opening_sound}
use Rattle.xc_world.proofs.law.the_opening_is_sound.Goals as goal

pub returns : goal.returns
returns c = opening_sound
