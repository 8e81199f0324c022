use Rattle.xc_world.proofs.Joined.{plain_append}
use Rattle.xc_world.proofs.whole.a_body_in_two_parts.Goals as goal

pub returns : goal.returns
returns c = plain_append
