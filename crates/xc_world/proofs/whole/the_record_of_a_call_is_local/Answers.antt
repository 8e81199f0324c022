use Rattle.xc_world.proofs.Calls.{recorded_alike}
use Rattle.xc_world.proofs.whole.the_record_of_a_call_is_local.Goals as goal

pub returns : goal.returns
returns c = recorded_alike
