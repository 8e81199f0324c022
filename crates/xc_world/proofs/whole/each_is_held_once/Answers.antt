use Rattle.xc_world.proofs.Holding.{held_once}
use Rattle.xc_world.proofs.whole.each_is_held_once.Goals as goal

pub returns : goal.returns
returns c = held_once
