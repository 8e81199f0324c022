use Rattle.xc_socket.proofs.ReceiptCalls.{receipt_passed}
use Rattle.xc_socket.proofs.receiving.receive_open.Goals as goal

pub returns-clause-passes : goal.returns-clause-passes
returns-clause-passes g c =
    let next = c.in_ok-reply.ensures in
    λ h number undo at free. receipt_passed g.H.Host.model
    (record { host = c.args.host.now; items = c.args.kept.now.items; me = c.args.me.now })
    (record { host = c.receive_next.new.host; items = c.receive_next.new.kept.items; me = c.store.new.me }) h c.args.at.pair c.args.at.side number undo
    c.in_ok-reply.reply
    at free next.reply c.store.ensures.me next.receives next.uses next.cause
