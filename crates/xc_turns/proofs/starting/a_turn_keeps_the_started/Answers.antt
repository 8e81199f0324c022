use Rattle.xc_turns.proofs.StartedTurns.{turn_keeps_started, entry_room, started_count}
use Rattle.xc_turns.proofs.StartersAlone.{starter_alone, none_waits}
use Rattle.xc_turns.proofs.starting.a_turn_keeps_the_started.Goals as goal

pub returns-clause-turn : goal.returns-clause-turn
returns-clause-turn c = turn_keeps_started

pub returns-clause-room : goal.returns-clause-room
returns-clause-room c = λ script now at tx h active. entry_room now at tx h active

pub returns-clause-count : goal.returns-clause-count
returns-clause-count c = λ script now h. started_count now h

pub returns-clause-alone : goal.returns-clause-alone
returns-clause-alone c = λ script now at tx h apart active keeps. starter_alone now at tx h apart active keeps

pub returns-clause-nobody : goal.returns-clause-nobody
returns-clause-nobody c = λ script now h none. none_waits now h none
