use Rattle.xc_world.proofs.SoundReady.{act_leaves_ready}
use Rattle.xc_world.proofs.law.a_call_leaves_ready_late_calls.Goals as goal

pub returns : goal.returns
returns c = act_leaves_ready
