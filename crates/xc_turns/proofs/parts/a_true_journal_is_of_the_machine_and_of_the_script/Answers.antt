use Rattle.xc_turns.proofs.Ways.{parts_of_joint, joint_of_parts}
use Rattle.xc_turns.proofs.parts.a_true_journal_is_of_the_machine_and_of_the_script.Goals as goal

pub returns-clause-parts : goal.returns-clause-parts
returns-clause-parts c = parts_of_joint

pub returns-clause-whole : goal.returns-clause-whole
returns-clause-whole c = joint_of_parts
