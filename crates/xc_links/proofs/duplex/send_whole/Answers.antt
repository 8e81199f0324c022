use Rattle.std.proofs.Common.{arith}
use Rattle.std.proofs.KnownBytes.{Keeps-trans}
use Rattle.xc_edge.proofs.Laws.{wrote_more}
use Rattle.xc_links.proofs.duplex.send_whole.Goals as goal

pub loop-done-preserved : goal.loop-done-preserved
loop-done-preserved g c =
    let told = g.L.Duplex.told in
    record {
      wrote = wrote_more (told c.args.link.now).taken (told c.loop-done.link).taken (told c.write.new.self).taken c.args.text.now c.loop-done.done
          c.in_ok-done.field-0 c.loop-done.invariant.wrote c.in_ok-done.ensures.bytes;
      room = omega (arith, c.in_ok-done.ensures.bound);
      left = Keeps-trans _ _ _ c.loop-done.invariant.left c.write.ensures.other;
      faults = omega (arith, c.write.ensures.cause.later);
    }
