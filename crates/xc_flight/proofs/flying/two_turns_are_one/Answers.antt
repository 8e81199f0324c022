use Rattle.xc_flight.proofs.Together.{two_turns}
use Rattle.xc_flight.proofs.flying.two_turns_are_one.Goals as goal

pub returns : goal.returns
returns c = two_turns
