use Rattle.xc_flight.proofs.Sounding.{idle_after}
use Rattle.xc_flight.proofs.soundness.a_commit_keeps_idle_jobs_sound.Goals as goal

pub returns : goal.returns
returns c = λ s job t places f sound. idle_after s job t f.all sound f.active f.phase places
