use Rattle.std.proofs.Common.{◌-◌, ◌≤◌, length, take}
use Rattle.std.specs.Io.KnownBytes.{Appends, Keeps}
use Rattle.xc_links.proofs.duplex.send_whole.Given as goal

-- a front is written
abbrev pub invariant-loop-done : goal.invariant-loop-done
invariant-loop-done g l =
    let told = g.L.Duplex.told in
    record {
      wrote : Appends (told l.fn.link).taken (told l.link).taken (take l.done l.text);
      room : l.done ≤ length l.text;
      left : Keeps (told l.fn.link).left (told l.link).left;
      faults : (told l.fn.link).faults ≤ (told l.link).faults;
    }

abbrev pub decreases-loop-done : goal.decreases-loop-done
decreases-loop-done g l = length l.text - l.done
