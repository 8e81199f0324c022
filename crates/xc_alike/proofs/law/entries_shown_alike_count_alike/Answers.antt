use Rattle.xc_alike.proofs.CountedAlike.{faults_alike, remains_alike, commits_alike, totals_alike}
use Rattle.xc_alike.proofs.law.entries_shown_alike_count_alike.Goals as goal

pub returns-clause-faults : goal.returns-clause-faults
returns-clause-faults c = faults_alike

pub returns-clause-remains : goal.returns-clause-remains
returns-clause-remains c = remains_alike

pub returns-clause-commits : goal.returns-clause-commits
returns-clause-commits c = commits_alike

pub returns-clause-totals : goal.returns-clause-totals
returns-clause-totals c = totals_alike
