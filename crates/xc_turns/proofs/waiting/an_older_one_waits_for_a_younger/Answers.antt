use Rattle.xc_turns.proofs.Waits.{may_wait, waits_counted, count_kept, others_kept, marks_made}
use Rattle.xc_turns.proofs.waiting.an_older_one_waits_for_a_younger.Goals as goal

pub returns-clause-waits : goal.returns-clause-waits
returns-clause-waits c = may_wait

pub returns-clause-counts : goal.returns-clause-counts
returns-clause-counts c = waits_counted

pub returns-clause-kept : goal.returns-clause-kept
returns-clause-kept c = count_kept

pub returns-clause-others : goal.returns-clause-others
returns-clause-others c = others_kept

pub returns-clause-marks : goal.returns-clause-marks
returns-clause-marks c = marks_made
