use Rattle.xc_flight.proofs.Rows.{begin_keeps}
use Rattle.xc_flight.proofs.turns.a_begin_keeps_all.Goals as goal

pub returns : goal.returns
returns c = begin_keeps
