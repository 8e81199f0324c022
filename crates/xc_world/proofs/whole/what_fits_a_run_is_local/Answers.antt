use Rattle.xc_world.proofs.Runs.{run_fits_alike}
use Rattle.xc_world.proofs.whole.what_fits_a_run_is_local.Goals as goal

pub returns : goal.returns
returns c = run_fits_alike
