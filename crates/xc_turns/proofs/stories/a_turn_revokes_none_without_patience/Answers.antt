use Rattle.xc_turns.proofs.Patience.{turn_revokes_none}
use Rattle.xc_turns.proofs.stories.a_turn_revokes_none_without_patience.Goals as goal

pub returns : goal.returns
returns c = turn_revokes_none
