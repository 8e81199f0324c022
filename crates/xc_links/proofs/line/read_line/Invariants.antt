use Rattle.std.proofs.Common.{◌≡◌, ◌-◌, ◌≤◌, length, take}
use Rattle.std.specs.Io.KnownBytes.{Consumes, Keeps}
use Rattle.xc_links.specs.Lines.{IsWithin}
use Rattle.xc_links.proofs.line.read_line.Given as goal

-- bytes within a line came
abbrev pub invariant-loop-at : goal.invariant-loop-at
invariant-loop-at g l =
    let told = g.L.Duplex.told in
    record {
      room : l.at ≤ 65;
      size : length l.buffer ≡ 65;
      within : IsWithin (take l.at l.buffer);
      came : Consumes (told l.fn.link).left (told l.link).left (take l.at l.buffer);
      other : Keeps (told l.fn.link).taken (told l.link).taken;
      faults : (told l.fn.link).faults ≤ (told l.link).faults;
    }

abbrev pub decreases-loop-at : goal.decreases-loop-at
decreases-loop-at g l = 65 - l.at
