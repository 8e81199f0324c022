use Rattle.xc_world.proofs.Bodies.{body_keeps}
use Rattle.xc_world.proofs.whole.a_body_changes_its_own_alone.Goals as goal

pub returns : goal.returns
returns c = body_keeps
