use Rattle.std.proofs.Common.{◌≡◌, ◌≤◌, ◌+◌, ◌-◌, length, drop}
use Rattle.std.specs.List.{prefix_len}
use Rattle.xc_lanes.proofs.runs.front_len.Given as goal

-- those so far, and those of the rest
abbrev pub invariant-by_lanes : goal.invariant-by_lanes
invariant-by_lanes g l =
    record {
      within : l.n ≤ length l.bytes;
      same : l.n + prefix_len g.K.ByteKind.has (drop l.n l.bytes) ≡ prefix_len g.K.ByteKind.has l.bytes;
    }

abbrev pub decreases-by_lanes : goal.decreases-by_lanes
decreases-by_lanes g l = length l.bytes - l.n

-- the same
abbrev pub invariant-loop-n : goal.invariant-loop-n
invariant-loop-n g l =
    record {
      within : l.n ≤ length l.bytes;
      same : l.n + prefix_len g.K.ByteKind.has (drop l.n l.bytes) ≡ prefix_len g.K.ByteKind.has l.bytes;
    }

abbrev pub decreases-loop-n : goal.decreases-loop-n
decreases-loop-n g l = length l.bytes - l.n
