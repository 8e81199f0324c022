use Rattle.std.proofs.Common.{◌-◌, ◌≤◌, length, take}
use Rattle.std.specs.Io.KnownBytes.{Appends}
use Rattle.xc_edge.proofs.whole.write_front.Given as goal

-- a front is written
abbrev pub invariant-loop-done : goal.invariant-loop-done
invariant-loop-done g l =
    let told = g.K.Sink.told in
    record {
      wrote : Appends (told l.fn.sink).bytes (told l.sink).bytes (take l.done l.text);
      room : l.done ≤ length l.text;
      faults : (told l.fn.sink).faults ≤ (told l.sink).faults;
    }

abbrev pub decreases-loop-done : goal.decreases-loop-done
decreases-loop-done g l = length l.text - l.done
