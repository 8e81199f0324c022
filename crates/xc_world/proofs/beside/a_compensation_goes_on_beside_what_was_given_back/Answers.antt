use Rattle.xc_world.proofs.GivenBeside.{undone_beside}
use Rattle.xc_world.proofs.beside.a_compensation_goes_on_beside_what_was_given_back.Goals as goal

pub returns : goal.returns
returns c = undone_beside
