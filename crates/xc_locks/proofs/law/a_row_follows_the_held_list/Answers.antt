use Rattle.xc_locks.proofs.Held.{claimed-holding}
use Rattle.xc_locks.proofs.law.a_row_follows_the_held_list.Goals as goal

pub returns : goal.returns
returns c = claimed-holding
