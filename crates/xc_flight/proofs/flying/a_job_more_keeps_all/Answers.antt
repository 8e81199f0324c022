use Rattle.xc_flight.proofs.Rows.{one_job_more}
use Rattle.xc_flight.proofs.flying.a_job_more_keeps_all.Goals as goal

pub returns : goal.returns
returns c = one_job_more
