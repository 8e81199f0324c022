use Rattle.std.proofs.Common.{arith}
use Rattle.xc_print.proofs.Sheets.{sent_at_once}
use Rattle.xc_print.proofs.sheet.Sheet.put_through.Goals as goal

pub invariant_of-self-clause-underway : goal.invariant_of-self-clause-underway
invariant_of-self-clause-underway g c =
    let told = g.K.Sink.told in
    let was = c.args.self.now in
    let new = c.send_front-taken in
    sent_at_once (told was.start.value) (record { old = told was.sink.now; new = told new.new.sink }) was.said.bytes c.then-self.result.bytes
    was.taken.bytes new.result.0.bytes was.piece.items c.args.bytes.now was.failed new.result.1 c.requires.well
    (omega (arith, c.requires.empty, was.piece.ok.0)) c.then-self.ensures was.underway new.ensures
