use Rattle.xc_world.proofs.Refused.{act_refused}
use Rattle.xc_world.proofs.law.a_refused_call_changes_nothing.Goals as goal

pub returns : goal.returns
returns c = act_refused
