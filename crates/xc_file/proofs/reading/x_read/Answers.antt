use Rattle.std.proofs.Common.{refl}
use Rattle.xc_data.specs.declared.call.Call.TheVariants.{XRead}
use Rattle.xc_calls.proofs.Laws.{refused_call, passed_call, none_grow, always_err}
use Rattle.xc_file.proofs.FileCalls.{at_handle}
use Rattle.xc_file.proofs.reading.x_read.Goals as goal

pub returns-in-Err-clause-call : goal.returns-in-Err-clause-call
returns-in-Err-clause-call g c = λ number undo. refused_call g.H.Host.model _
    (record { host = c.args.host.now; number = number; me = c.args.me.now; undo = undo }) _ c.in-Err.ensures.checks (λ w n. refl)

pub returns-clause-call : goal.returns-clause-call
returns-clause-call g c =
    let next = c.read_next.ensures in
    λ number undo. at_handle g.H.Host.model (λ h. XRead h c.args.n) _ _
    (record { host = c.args.host.now; number = number; me = c.args.me.now; undo = undo }) _ _
    c.in-Ok.ensures.open.0 c.in-Ok.ensures.checks
    (λ free. passed_call g.H.Host.model _ _ _ c.read_next.result free (next.passes number undo)
    (none_grow g.H.Host.model _ _ _ c.read_next.result refl (λ r. refl) (λ r w. refl))
    (always_err _ c.read_next.result (record { undo = refl; contents = next.contents })))
