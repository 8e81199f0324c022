use Rattle.xc_world.proofs.Records.{effect_alike}
use Rattle.xc_world.proofs.whole.an_effect_is_local.Goals as goal

pub returns : goal.returns
returns c = effect_alike
