use Rattle.xc_flight.specs.Active.{Own}
use Rattle.xc_flight.proofs.Frames.{flight_kept}
use Rattle.xc_flight.proofs.flying.others_fly_on.Goals as goal

pub returns : goal.returns
returns c = λ w v now now2 t u. flight_kept (Own t) w v now now2 u
