use Rattle.xc_world.proofs.Records.{undone_alike}
use Rattle.xc_world.proofs.whole.an_undoing_is_local.Goals as goal

pub returns : goal.returns
returns c = undone_alike
