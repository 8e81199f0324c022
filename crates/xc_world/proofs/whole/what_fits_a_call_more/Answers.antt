use Rattle.xc_world.proofs.Joined.{body_fits_last}
use Rattle.xc_world.proofs.whole.what_fits_a_call_more.Goals as goal

pub returns : goal.returns
returns c = body_fits_last
