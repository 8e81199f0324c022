use Rattle.std.proofs.Common.{refl}
use Rattle.xc_sessions.proofs.program.run_program.Goals as goal

pub returns-in-Ok-clause-finished : goal.returns-in-Ok-clause-finished
returns-in-Ok-clause-finished g c =
    let ran = c.serve_run-served.ensures in
    rw c.in-Ok.is (rw (← c.as_slice.ensures.value) (c.serve_run-served.result, refl, ran.served, ran.sessions))
