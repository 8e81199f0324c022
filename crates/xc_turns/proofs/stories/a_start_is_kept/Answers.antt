use Rattle.xc_turns.proofs.StoryStart.{start_kept}
use Rattle.xc_turns.proofs.stories.a_start_is_kept.Goals as goal

pub returns : goal.returns
returns c = start_kept
