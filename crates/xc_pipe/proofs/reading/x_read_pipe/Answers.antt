use Rattle.std.proofs.Common.{refl}
use Rattle.xc_data.specs.declared.call.Call.TheVariants.{XReadPipe}
use Rattle.xc_calls.proofs.Laws.{refused_call, passed_call, none_grow, err_before, err_logical}
use Rattle.xc_host.specs.Fronted.{before, fronted}
use Rattle.xc_pipe.proofs.reading.x_read_pipe.Goals as goal

pub returns-in-Err-clause-call : goal.returns-in-Err-clause-call
returns-in-Err-clause-call g c = λ number undo. refused_call (fronted g.H.Host.model) (XReadPipe c.args.h c.args.n)
    (record { host = before c.args.host.now c.args.kept.now.items; number = number; me = c.args.me.now; undo = undo }) _ c.in-Err.ensures.checks (λ w n. refl)

pub returns-in-Ok-clause-call : goal.returns-in-Ok-clause-call
returns-in-Ok-clause-call g c =
    let model = g.H.Host.model in
    let next = c.read_open.ensures in
    λ number undo. passed_call (fronted model) (XReadPipe c.args.h c.args.n)
    (record { host = before c.args.host.now c.args.kept.now.items; number = number; me = c.args.me.now; undo = undo })
    (record { host = before c.read_open.new.host c.read_open.new.kept.items; number = number; me = c.read_open.new.me; undo = undo }) c.read_open.result
    c.in-Ok.ensures.checks (next.passes c.args.h number undo c.in-Ok.ensures.open c.in-Ok.ensures.checks)
    (none_grow (fronted model) (XReadPipe c.args.h c.args.n) _ _ c.read_open.result refl (λ r. refl) (λ r w. refl))
    (err_before model (record { host = c.args.host.now; items = c.args.kept.now.items; me = c.args.me.now })
    (record { host = c.read_open.new.host; items = c.read_open.new.kept.items; me = c.read_open.new.me }) undo c.read_open.result next.err)

pub returns-in-Ok-clause-err : goal.returns-in-Ok-clause-err
returns-in-Ok-clause-err g c =
    let model = g.H.Host.model in
    λ t. err_logical model (record { host = c.args.host.now; items = c.args.kept.now.items; me = c.args.me.now })
    (record { host = c.read_open.new.host; items = c.read_open.new.kept.items; me = c.read_open.new.me }) c.read_open.result
    (c.read_open.ensures.err t)
