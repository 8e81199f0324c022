use Rattle.xc_world.proofs.Runs.{late_fits_alike}
use Rattle.xc_world.proofs.whole.what_fits_a_late_call_is_local.Goals as goal

pub returns : goal.returns
returns c = late_fits_alike
