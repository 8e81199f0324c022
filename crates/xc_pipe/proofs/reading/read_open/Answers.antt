use Rattle.std.proofs.Common.{Ok, arith}
use Rattle.xc_pipe.proofs.ReadCalls.{read_passed}
use Rattle.xc_pipe.proofs.reading.read_open.Goals as goal

pub returns-clause-passes : goal.returns-clause-passes
returns-clause-passes g c =
    let next = c.in_ok-reply.ensures in
    λ h number undo at free. read_passed g.H.Host.model
    (record { host = c.args.host.now; items = c.args.kept.now.items; me = c.args.me.now })
    (record { host = c.read_next.new.host; items = c.read_next.new.kept.items; me = c.store.new.me }) h c.args.n c.args.pipe number undo
    (Ok c.in_ok-reply.reply)
    at free (omega (arith, c.if-n-eq0.false)) next.reply c.store.ensures.me tt next.reads next.uses next.cause
