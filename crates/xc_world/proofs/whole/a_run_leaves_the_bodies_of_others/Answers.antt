use Rattle.xc_world.proofs.Runs.{other_run_apart}
use Rattle.xc_world.proofs.whole.a_run_leaves_the_bodies_of_others.Goals as goal

pub returns : goal.returns
returns c = other_run_apart
