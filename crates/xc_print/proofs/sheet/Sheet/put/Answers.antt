use Rattle.xc_print.proofs.Sheets.{sent_off}
use Rattle.xc_print.proofs.sheet.Sheet.put.Goals as goal

pub invariant_of-self-clause-underway : goal.invariant_of-self-clause-underway
invariant_of-self-clause-underway g c =
    let told = g.K.Sink.told in
    let was = c.args.self.now in
    let new = c.send_front-taken in
    sent_off (told was.start.value) (record { old = told was.sink.now; new = told new.new.sink }) was.said.bytes was.taken.bytes new.result.0.bytes
    was.piece.items c.as_slice.result.now c.clear.new.self.items was.failed new.result.1 c.requires c.as_slice.ensures.value c.clear.ensures.items
    was.underway new.ensures
