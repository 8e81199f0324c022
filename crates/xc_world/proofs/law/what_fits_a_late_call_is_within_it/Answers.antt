use Rattle.xc_world.proofs.Runs.{late_answer_within}
use Rattle.xc_world.proofs.law.what_fits_a_late_call_is_within_it.Goals as goal

pub returns : goal.returns
returns c = late_answer_within
