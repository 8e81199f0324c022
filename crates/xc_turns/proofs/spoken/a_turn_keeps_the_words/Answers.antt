use Rattle.xc_turns.proofs.WordTurns.{turn_keeps_words}
use Rattle.xc_turns.proofs.spoken.a_turn_keeps_the_words.Goals as goal

pub returns : goal.returns
returns c = turn_keeps_words
