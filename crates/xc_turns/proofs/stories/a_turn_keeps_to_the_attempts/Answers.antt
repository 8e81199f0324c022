use Rattle.xc_turns.proofs.Attempts.{turn_leaves_attempts}
use Rattle.xc_turns.proofs.stories.a_turn_keeps_to_the_attempts.Goals as goal

pub returns : goal.returns
returns c = turn_leaves_attempts
