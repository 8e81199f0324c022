use Rattle.std.proofs.Common.{refl}
use Rattle.xc_coop.proofs.program.run_program.Goals as goal

pub returns-in-Ok-clause-finished : goal.returns-in-Ok-clause-finished
returns-in-Ok-clause-finished g c =
    let ran = c.coop_run-finish.ensures in
    rw c.in-Ok.is (rw (← c.as_slice.ensures.value) (
      c.coop_run-finish.result,
      refl,
      record { answered = ran.answered; run = ran.run; complete = ran.complete; host = ran.host; one = ran.one },
    ))

pub returns-in-Ok-clause-unread : goal.returns-in-Ok-clause-unread
returns-in-Ok-clause-unread g c = rw c.in-Ok.is (rw (← c.as_slice.ensures.value) c.coop_run-finish.ensures.unread)
