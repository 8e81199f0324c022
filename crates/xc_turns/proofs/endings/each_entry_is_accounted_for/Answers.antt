use Rattle.xc_turns.proofs.Accounts.{journal_accounts}
use Rattle.xc_turns.proofs.endings.each_entry_is_accounted_for.Goals as goal

pub returns : goal.returns
returns c = journal_accounts
