use Rattle.std.proofs.Common.{subst}
use Rattle.std.specs.Prelude.{Ok}
use Rattle.xc_host.specs.declared.pipes.Took.{Took}
use Rattle.xc_socket.specs.Receiving.{TakesMessageKept}
use Rattle.xc_socket.proofs.Behind.{given_message}
use Rattle.xc_socket.proofs.receiving.receive_next.Goals as goal

pub returns-in-Err-clause-kept : goal.returns-in-Err-clause-kept
returns-in-Err-clause-kept g c =
    let old = c.args.kept.now.items in
    let mid = c.take_next.new.kept.items in
    given_message old mid c.give_msg.new.self.items c.args.at.pair c.args.at.side c.in-Ok-Bytes.message c.in-Ok-Bytes.ensures.were.fit c.requires.side
    (subst (λ (f : Took). TakesMessageKept c.args.at.pair c.args.at.side (record { old = old; new = mid }) (Ok f)) c.in-Ok-Bytes.field-0-is
    c.in-Ok-Bytes.ensures.kept)
    c.give_msg.ensures.given.world
