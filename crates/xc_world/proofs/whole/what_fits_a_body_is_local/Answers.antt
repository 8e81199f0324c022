use Rattle.xc_world.proofs.Bodies.{body_fits_alike}
use Rattle.xc_world.proofs.whole.what_fits_a_body_is_local.Goals as goal

pub returns : goal.returns
returns c = body_fits_alike
