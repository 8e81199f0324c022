use Rattle.xc_flight.proofs.Together.{joining_sound}
use Rattle.xc_flight.proofs.soundness.a_job_without_handles_is_sound.Goals as goal

pub returns : goal.returns
returns c = joining_sound
