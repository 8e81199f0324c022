use Rattle.xc_world.proofs.Local.{act_alike}
use Rattle.xc_world.proofs.law.a_call_is_local.Goals as goal

pub returns : goal.returns
returns c = act_alike
