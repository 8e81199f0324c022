use Rattle.std.proofs.Common.{◌-◌, ◌+◌, length}
use Rattle.xc_station.specs.Stations.{IsAhead}
use Rattle.xc_station.proofs.station.Station.next_live.Given as goal

-- the jobs that were passed have ended
abbrev pub invariant-loop-next : goal.invariant-loop-next
invariant-loop-next g l = IsAhead l.fn.self.jobs l.above l.next

abbrev pub decreases-loop-next : goal.decreases-loop-next
decreases-loop-next g l = length l.fn.self.jobs + 1 - l.next
