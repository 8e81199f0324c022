use Rattle.xc_world.proofs.Joined.{body_last}
use Rattle.xc_world.proofs.whole.a_call_more_is_a_step_more.Goals as goal

pub returns : goal.returns
returns c = body_last
