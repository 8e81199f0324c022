use Rattle.xc_world.proofs.Replies.{no_check_reply}
use Rattle.xc_world.proofs.law.what_may_be_replied_is_no_refusal.Goals as goal

pub returns : goal.returns
returns c = no_check_reply
