use Rattle.xc_turns.proofs.JournalGoesOn.{journal_goes_on}
use Rattle.xc_turns.proofs.growing.a_turn_goes_on_with_the_journal.Goals as goal

pub returns : goal.returns
returns c = journal_goes_on
