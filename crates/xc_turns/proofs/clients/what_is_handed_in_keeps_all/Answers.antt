use Rattle.xc_turns.proofs.HandedOver.{handed_consistent, handed_alone}
use Rattle.xc_turns.proofs.clients.what_is_handed_in_keeps_all.Goals as goal

pub returns-clause-kept : goal.returns-clause-kept
returns-clause-kept c = handed_consistent

pub returns-clause-alone : goal.returns-clause-alone
returns-clause-alone c = handed_alone
