use Rattle.xc_flight.proofs.Sounding.{still_absent}
use Rattle.xc_flight.proofs.turns.what_it_will_make_is_absent.Goals as goal

pub returns : goal.returns
returns c = λ s job t f sound. still_absent s job t f.all f.active f.phase sound
