use Rattle.xc_world.proofs.BlocksTaken.{open_block}
use Rattle.xc_world.proofs.effects.a_block_has_the_effects_of_its_records.Goals as goal

pub returns : goal.returns
returns c = open_block
