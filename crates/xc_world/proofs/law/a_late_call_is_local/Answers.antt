use Rattle.xc_world.proofs.LocalLate.{late_alike}
use Rattle.xc_world.proofs.law.a_late_call_is_local.Goals as goal

pub returns : goal.returns
returns c = late_alike
