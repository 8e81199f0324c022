use Rattle.xc_flight.proofs.Sounding.{own_after}
use Rattle.xc_flight.proofs.soundness.a_commit_leaves_its_job_sound.Goals as goal

pub returns : goal.returns
returns c = λ s job t now f sound. own_after s job t f.all sound f.active f.phase now
