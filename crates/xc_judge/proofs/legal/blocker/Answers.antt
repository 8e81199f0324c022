use Rattle.xc_compensate.proofs.Laws.{blocker_is}
use Rattle.xc_judge.proofs.legal.blocker.Goals as goal

pub returns-in-Some : goal.returns-in-Some
returns-in-Some c = blocker_is c.args.from c.args.older.now c.args.newer.now _ c.in-Some.ensures

pub returns-in-None : goal.returns-in-None
returns-in-None c = blocker_is c.args.from c.args.older.now c.args.newer.now _ c.in-None.ensures
