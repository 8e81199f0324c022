use Rattle.xc_world.proofs.EffectsUndone.{record-undone}
use Rattle.xc_world.proofs.effects.a_record_is_undone.Goals as goal

pub returns : goal.returns
returns c = record-undone
