use Rattle.std.proofs.Common.{arith}
use Rattle.xc_edge.proofs.Pieces.{wrote_more}
use Rattle.xc_edge.proofs.whole.write_front.Goals as goal

pub loop-done-preserved : goal.loop-done-preserved
loop-done-preserved g c =
    let told = g.K.Sink.told in
    record {
      wrote = wrote_more (told c.args.sink.now).bytes (told c.loop-done.sink).bytes (told c.write.new.self).bytes c.args.text.now c.loop-done.done
          c.in-Ok.count c.loop-done.invariant.wrote c.in-Ok.ensures.bytes;
      room = omega (arith, c.in-Ok.ensures.bound);
      faults = omega (arith, c.write.ensures.cause.later);
    }
