use Rattle.xc_world.proofs.EffectsCalls.{act-leads}
use Rattle.xc_world.proofs.effects.a_call_has_the_effects_of_its_records.Goals as goal

pub returns : goal.returns
returns c = act-leads
