use Rattle.xc_flight.proofs.Aborting.{newest_undone}
use Rattle.xc_flight.proofs.turns.a_recorded_compensation_keeps_all.Goals as goal

pub returns : goal.returns
returns c = newest_undone
