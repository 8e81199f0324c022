use Rattle.xc_world.proofs.GivenBeside.{act_beside}
use Rattle.xc_world.proofs.beside.a_call_goes_on_beside_what_was_given_back.Goals as goal

pub returns : goal.returns
returns c = λ w items me tx call answer elsewhere. act_beside w items me tx call elsewhere answer
