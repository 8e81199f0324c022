use Rattle.xc_world.proofs.Taken.{body_returns}
use Rattle.xc_world.proofs.effects.a_body_has_the_effects_of_its_records.Goals as goal

pub returns : goal.returns
returns c = body_returns
