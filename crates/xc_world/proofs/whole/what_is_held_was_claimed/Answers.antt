use Rattle.xc_world.proofs.Holding.{held_seen}
use Rattle.xc_world.proofs.whole.what_is_held_was_claimed.Goals as goal

pub returns : goal.returns
returns c = held_seen
