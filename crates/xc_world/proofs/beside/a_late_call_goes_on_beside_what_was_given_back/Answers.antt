use Rattle.xc_world.proofs.GivenBeside.{late_beside}
use Rattle.xc_world.proofs.beside.a_late_call_goes_on_beside_what_was_given_back.Goals as goal

pub returns : goal.returns
returns c = λ w items call answer elsewhere. late_beside w items call elsewhere answer
