use Rattle.xc_world.proofs.Runs.{late_keeps_others}
use Rattle.xc_world.proofs.whole.a_late_call_changes_its_object_alone.Goals as goal

pub returns : goal.returns
returns c = late_keeps_others
