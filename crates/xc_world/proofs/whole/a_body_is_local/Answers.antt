use Rattle.xc_world.proofs.Bodies.{body_alike}
use Rattle.xc_world.proofs.whole.a_body_is_local.Goals as goal

pub returns : goal.returns
returns c = body_alike
