use Rattle.std.proofs.Common.{refl}
use Rattle.xc_app.proofs.program.run_program.Goals as goal

pub returns-in-Ok-clause-finished : goal.returns-in-Ok-clause-finished
returns-in-Ok-clause-finished g c =
    let ran = c.xcalls_run-finish.ensures in
    rw c.in-Ok.is (rw (← c.as_slice.ensures.value) (
      c.xcalls_run-finish.result,
      refl,
      record {
        answered = ran.answered;
        run = ran.run;
        complete = ran.complete;
        plain = ran.plain;
        host = ran.host;
        one = ran.one;
      },
    ))

pub returns-in-Ok-clause-unread : goal.returns-in-Ok-clause-unread
returns-in-Ok-clause-unread g c = rw c.in-Ok.is (rw (← c.as_slice.ensures.value) c.xcalls_run-finish.ensures.unread)

pub returns-in-Ok-clause-seeded : goal.returns-in-Ok-clause-seeded
returns-in-Ok-clause-seeded g c = rw c.in-Ok.is (rw (← c.as_slice.ensures.value) c.xcalls_run-finish.ensures.seeded)
