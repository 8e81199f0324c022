use Rattle.xc_flight.proofs.Moving.{move_keeps}
use Rattle.xc_flight.proofs.flying.all_fly_on.Goals as goal

pub returns : goal.returns
returns c = move_keeps
