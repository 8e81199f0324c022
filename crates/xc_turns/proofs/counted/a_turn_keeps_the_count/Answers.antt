use Rattle.xc_turns.proofs.CountedTurns.{turn_keeps_count}
use Rattle.xc_turns.proofs.counted.a_turn_keeps_the_count.Goals as goal

pub returns : goal.returns
returns c = λ s at before old new answer t told h. turn_keeps_count s at before old new answer t told h
