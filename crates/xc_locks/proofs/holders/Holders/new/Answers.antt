use Rattle.xc_locks.proofs.Modes.{mode_of-empty}
use Rattle.xc_locks.proofs.holders.Holders.new.Goals as goal

pub returns : goal.returns
returns c n o = mode_of-empty (record { words = c.new.result; others = c.new-2.result }) n o c.new.ensures c.new-2.ensures
