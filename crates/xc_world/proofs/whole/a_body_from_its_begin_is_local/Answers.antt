use Rattle.xc_world.proofs.Bodies.{body_alike_begun}
use Rattle.xc_world.proofs.whole.a_body_from_its_begin_is_local.Goals as goal

pub returns : goal.returns
returns c = body_alike_begun
