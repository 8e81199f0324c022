use Rattle.xc_world.proofs.EffectsUndone.{record-covered}
use Rattle.xc_world.proofs.effects.the_newest_record_is_covered.Goals as goal

pub returns : goal.returns
returns c = record-covered
