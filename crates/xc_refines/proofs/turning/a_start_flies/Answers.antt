use Rattle.xc_refines.proofs.TurnStart.{start_flies}
use Rattle.xc_refines.proofs.turning.a_start_flies.Goals as goal

pub returns : goal.returns
returns c = start_flies
