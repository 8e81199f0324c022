use Rattle.xc_world.proofs.Records.{undone_to_alike}
use Rattle.xc_world.proofs.whole.a_compensation_is_local.Goals as goal

pub returns : goal.returns
returns c = undone_to_alike
