use Rattle.xc_world.proofs.Refused.{act_refused_whole}
use Rattle.xc_world.proofs.law.a_privately_refused_call_leaves_all.Goals as goal

pub returns : goal.returns
returns c = act_refused_whole
