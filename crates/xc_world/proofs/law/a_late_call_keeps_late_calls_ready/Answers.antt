use Rattle.xc_world.proofs.SoundReady.{late_keeps_ready}
use Rattle.xc_world.proofs.law.a_late_call_keeps_late_calls_ready.Goals as goal

pub returns : goal.returns
returns c = late_keeps_ready
