use Rattle.xc_turns.proofs.Closings.{calls_true, journal_true, ends_told, words_are_left}
use Rattle.xc_turns.proofs.endings.where_all_have_ended_the_journal_is_true.Goals as goal

pub returns-clause-journal : goal.returns-clause-journal
returns-clause-journal c = λ s words now lines. journal_true s words now.marks now.journal now.jobs now.calls lines

pub returns-clause-ends : goal.returns-clause-ends
returns-clause-ends c = λ s words now lines. ends_told s words now.marks now.journal now.jobs lines

pub returns-clause-words : goal.returns-clause-words
returns-clause-words c = words_are_left

pub returns-clause-calls : goal.returns-clause-calls
returns-clause-calls c = λ s words now lines. calls_true s words now.marks now.journal now.jobs now.calls lines
