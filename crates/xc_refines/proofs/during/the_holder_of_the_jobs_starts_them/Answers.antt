use Rattle.xc_refines.proofs.StartedOrder.{holder_started, nobody_started}
use Rattle.xc_refines.proofs.during.the_holder_of_the_jobs_starts_them.Goals as goal

pub returns-clause-holder : goal.returns-clause-holder
returns-clause-holder c = λ s now at tx all active holds. holder_started s now all at active.0 tx active.1 active.2 holds

pub returns-clause-nobody : goal.returns-clause-nobody
returns-clause-nobody c = nobody_started
