use Rattle.xc_turns.proofs.HandledTurns.{turn_keeps_handles}
use Rattle.xc_turns.proofs.handled.a_turn_keeps_the_handles.Goals as goal

pub returns : goal.returns
returns c = turn_keeps_handles
