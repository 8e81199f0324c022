use Rattle.std.proofs.Common.{◌-◌, ◌≤◌, length, vec_len}
use Rattle.std.specs.Io.KnownBytes.{Consumes}
use Rattle.xc_edge.proofs.whole.read_up_to.Given as goal

-- what came so far
abbrev pub invariant-loop-buffer : goal.invariant-loop-buffer
invariant-loop-buffer g l =
    let told = g.S.Source.told in
    record {
      came : Consumes (told l.fn.source).bytes (told l.source).bytes l.bytes.items;
      room : length l.bytes.items ≤ l.limit;
      faults : (told l.fn.source).faults ≤ (told l.source).faults;
    }

abbrev pub decreases-loop-buffer : goal.decreases-loop-buffer
decreases-loop-buffer g l = l.limit - vec_len l.bytes
