use Rattle.xc_print.proofs.calls.push_call.Goals as goal

pub returns-in-XWriteSeq : goal.returns-in-XWriteSeq
returns-in-XWriteSeq g c = rw c.in-XWriteSeq.is c.push_written-in-XWriteSeq.ensures

pub returns-in-XShutdown : goal.returns-in-XShutdown
returns-in-XShutdown g c = rw c.in-XShutdown.is c.push_handled_late-in-XShutdown.ensures
