use Rattle.xc_world.proofs.Reading.{act_leaves}
use Rattle.xc_world.proofs.whole.a_reading_call_changes_nothing.Goals as goal

pub returns : goal.returns
returns c = act_leaves
