use Rattle.xc_world.proofs.Records.{remains_agree_own}
use Rattle.xc_world.proofs.whole.what_remains_is_local.Goals as goal

pub returns : goal.returns
returns c = remains_agree_own
