use Rattle.std.proofs.Common.{◌≤◌, ◌+◌, length, take, map}
use Rattle.xc_model.specs.Consistent.{AreLinesOf}
use Rattle.xc_station.specs.Jobs.{job_view}
use Rattle.xc_station.proofs.station.finish.lines_of.Given as goal

-- the jobs so far have their lines, and the others have room
abbrev pub invariant-loop-job : goal.invariant-loop-job
invariant-loop-job l =
    record {
      lines : AreLinesOf (map job_view (take l.job-index l.jobs)) l.lines.items;
      room : length l.jobs ≤ l.lines.spare + l.job-index;
    }
