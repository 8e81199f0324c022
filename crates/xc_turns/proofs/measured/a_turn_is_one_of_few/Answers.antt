use Rattle.xc_turns.proofs.Lefts.{leaves_fewer}
use Rattle.xc_turns.proofs.measured.a_turn_is_one_of_few.Goals as goal

pub returns : goal.returns
returns c = leaves_fewer
