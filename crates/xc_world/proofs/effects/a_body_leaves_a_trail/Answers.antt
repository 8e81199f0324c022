use Rattle.xc_world.proofs.EffectsTrail.{body-made}
use Rattle.xc_world.proofs.effects.a_body_leaves_a_trail.Goals as goal

pub returns : goal.returns
returns c = body-made
