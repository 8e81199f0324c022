use Rattle.std.proofs.Common.{◌≡◌, ◌≤◌, ◌+◌, length, take}
use Rattle.xc_station.proofs.station.start.opened_names.Given as goal

-- the names so far are noted, and the others have room
abbrev pub invariant-loop-name : goal.invariant-loop-name
invariant-loop-name l =
    record {
      names : l.started.items ≡ take l.name-index l.names;
      room : length l.names ≤ l.started.spare + l.name-index;
    }
