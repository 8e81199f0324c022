use Rattle.xc_world.proofs.Records.{remains_keep_own}
use Rattle.xc_world.proofs.whole.what_remains_changes_its_objects_alone.Goals as goal

pub returns : goal.returns
returns c = remains_keep_own
