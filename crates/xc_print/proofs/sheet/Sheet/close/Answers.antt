use Rattle.std.proofs.Common.{ap}
use Rattle.xc_print.proofs.Sheets.{part_written}
use Rattle.xc_print.proofs.sheet.Sheet.close.Goals as goal

pub returns-then-self-clause-part : goal.returns-then-self-clause-part
returns-then-self-clause-part g c =
    let told = g.K.Sink.told in
    let was = c.args.self.now in
    let new = c.flush.new.self in
    part_written (told was.start.value) (told new.start.value) (told new.sink.now) was.said.bytes new.said.bytes new.taken.bytes new.piece.items
    new.failed (ap told c.flush.ensures.same.1) c.flush.ensures.said c.if-self.true new.underway
