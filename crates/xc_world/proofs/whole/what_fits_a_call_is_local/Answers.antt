use Rattle.xc_world.proofs.Calls.{fits_alike}
use Rattle.xc_world.proofs.whole.what_fits_a_call_is_local.Goals as goal

pub returns : goal.returns
returns c = fits_alike
