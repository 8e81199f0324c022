use Rattle.xc_world.proofs.SoundReady.{act_keeps_ready}
use Rattle.xc_world.proofs.law.a_call_keeps_late_calls_ready.Goals as goal

pub returns : goal.returns
returns c = act_keeps_ready
