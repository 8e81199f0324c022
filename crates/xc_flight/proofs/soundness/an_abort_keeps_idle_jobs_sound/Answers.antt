use Rattle.xc_flight.proofs.Aborting.{abort_idle}
use Rattle.xc_flight.proofs.soundness.an_abort_keeps_idle_jobs_sound.Goals as goal

pub returns : goal.returns
returns c = λ s job t places f. abort_idle s job t f places
