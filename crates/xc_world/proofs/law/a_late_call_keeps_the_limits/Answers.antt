use Rattle.xc_world.proofs.SoundLate.{late_fit}
use Rattle.xc_world.proofs.law.a_late_call_keeps_the_limits.Goals as goal

pub returns : goal.returns
returns c = late_fit
