use Rattle.xc_turns.proofs.Completions.{complete}
use Rattle.xc_turns.proofs.Ways.{joint_of_parts}
use Rattle.xc_turns.proofs.endings.where_all_are_done_all_is_complete.Goals as goal

pub returns : goal.returns
returns c = λ s now lines own journal ends done.
    let joint = joint_of_parts s now.journal journal in
    complete s joint.lasts now.journal lines own joint.entries ends done
