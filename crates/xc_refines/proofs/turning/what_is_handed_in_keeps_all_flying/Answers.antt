use Rattle.xc_refines.proofs.HandedFlight.{handed_flies}
use Rattle.xc_refines.proofs.turning.what_is_handed_in_keeps_all_flying.Goals as goal

pub returns : goal.returns
returns c = handed_flies
