use Rattle.xc_world.proofs.Bodies.{free_agree}
use Rattle.xc_world.proofs.whole.worlds_without_a_number_agree_there.Goals as goal

pub returns : goal.returns
returns c = free_agree
