use Rattle.std.proofs.Common.{◌≡◌, ◌≤◌, ◌+◌, ◌-◌, length, drop}
use Rattle.std.specs.List.{prefix_len}
use Rattle.xc_picture.specs.Scenes.{is_inner}
use Rattle.xc_picture.proofs.reading.inner_count.Given as goal

-- the run so far, and the rest of it
abbrev pub invariant-loop-n : goal.invariant-loop-n
invariant-loop-n l =
    record {
      within : l.n ≤ length l.lines;
      same : l.n + prefix_len is_inner (drop l.n l.lines) ≡ prefix_len is_inner l.lines;
    }

abbrev pub decreases-loop-n : goal.decreases-loop-n
decreases-loop-n l = length l.lines - l.n
