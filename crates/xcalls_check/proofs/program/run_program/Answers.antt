use Rattle.xcalls_check.proofs.program.run_program.Goals as goal

pub returns-in-Ok-clause-unread : goal.returns-in-Ok-clause-unread
returns-in-Ok-clause-unread g c = rw c.in-Ok.is (rw (← c.as_slice.ensures.value) c.check_run.ensures.unread)
