use Rattle.xc_world.proofs.Trails.{body_speaks}
use Rattle.xc_world.proofs.whole.what_a_body_leaves_speaks_of_its_own.Goals as goal

pub returns : goal.returns
returns c = body_speaks
