use Rattle.xc_world.proofs.Holding.{held_owned}
use Rattle.xc_world.proofs.whole.what_is_held_exclusively_was_claimed_so.Goals as goal

pub returns : goal.returns
returns c = held_owned
