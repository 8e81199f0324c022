use Rattle.std.proofs.Common.{sym, subst}
use Rattle.std.specs.Prelude.{IfOk}
use Rattle.xc_socket.specs.Receiving.{ReceiptFinds}
use Rattle.xc_socket.proofs.KeptPairs.{keeps_received}
use Rattle.xc_socket.proofs.Receipts.{host_finds}
use Rattle.xc_socket.proofs.receiving.take_next.Goals as goal

pub returns-in-None-clause-finds : goal.returns-in-None-clause-finds
returns-in-None-clause-finds g c =
    let contents = g.H.Host.model.contents in
    let pair = c.args.at.pair in
    let side = c.args.at.side in
    let items = c.args.kept.now.items in
    let was = contents c.args.host.now in
    let is = contents c.recv.new.self in
    let (none, same) = c.in-None.ensures.found in
    λ t. subst
    (λ new. IfOk c.recv.result
    (ReceiptFinds pair side (record { old = record { contents = was; items = items }; new = record { contents = is; items = new } })))
    (sym same)
    (host_finds items pair side c.spare-spare.ensures.kept.fit c.requires.side none was is c.recv.result (c.requires.there t) (c.recv.ensures.value t)
    (c.recv.ensures.answered.done t))

pub returns-in-None-clause-keeps : goal.returns-in-None-clause-keeps
returns-in-None-clause-keeps g c = keeps_received g.H.Host.model c.args.at.pair c.args.at.side _ _ c.recv.ensures.answered
