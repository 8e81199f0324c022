use Rattle.xc_turns.proofs.Grounding.{grounds_kept}
use Rattle.xc_turns.proofs.StoryTurns.{a_turn_keeps_the_stories_but}
use Rattle.xc_turns.proofs.stories.a_turn_keeps_the_stories.Goals as goal

pub returns : goal.returns
returns c = λ s at old new answer turned spoken played started told.
    a_turn_keeps_the_stories_but s at old new answer turned spoken played started told (grounds_kept s at old new answer turned played told)
