use Rattle.std.proofs.Common.{arith, length-take}
use Rattle.xc_edge.proofs.Pieces.{holds_on_err, took_more}
use Rattle.xc_edge.proofs.whole.read_up_to.Goals as goal

-- the piece that found no memory is lost too
pub returns-in_err-extend_from_slice-clause-lost :
    goal.returns-in_err-extend_from_slice-clause-lost
returns-in_err-extend_from_slice-clause-lost g c =
    let told = g.S.Source.told in
    let bound = c.in_ok-count.ensures.bound in
    let bytes = c.loop-buffer.bytes.items in
    holds_on_err _ (took_more c.args.limit (told c.args.source.now) (told c.loop-buffer.source) (told c.read.new.self) bytes c.read.new.into c.in_ok-count.count
    c.loop-buffer.invariant.came c.in_ok-count.ensures.bytes.0 bound.0 (omega (arith, c.read.auto.into, length-take c.min-room.result c.loop-buffer.buffer)))
