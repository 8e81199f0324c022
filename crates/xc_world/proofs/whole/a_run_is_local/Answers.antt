use Rattle.xc_world.proofs.Runs.{run_alike}
use Rattle.xc_world.proofs.whole.a_run_is_local.Goals as goal

pub returns : goal.returns
returns c = run_alike
