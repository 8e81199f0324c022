use Rattle.xc_flight.proofs.Aborting.{own_after_abort}
use Rattle.xc_flight.proofs.soundness.an_abort_leaves_its_job_sound.Goals as goal

pub returns : goal.returns
returns c = own_after_abort
