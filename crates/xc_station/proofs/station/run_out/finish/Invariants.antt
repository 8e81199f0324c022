use Rattle.std.proofs.Common.{◌≡◌, ◌≤◌, ◌+◌, ◌-◌, ℕ, length, Some}
use Rattle.xc_model.specs.declared.phase.Phase.{Phase}
use Rattle.xc_station.specs.Finishing.{OthersStay, job_left_at, phase_at}
use Rattle.xc_station.specs.Jobs.{job_views}
use Rattle.xc_station.proofs.Finishing.{IsOnWay, way_left}
use Rattle.xc_station.proofs.station.run_out.finish.Given as goal

-- the transaction is on its way to its entry, or is there
abbrev pub invariant-loop-station : goal.invariant-loop-station
invariant-loop-station g l =
    record {
      place : l.place ≡ length l.fn.station.journal;
      grown : length (job_views l.fn.station.jobs) ≤ length (job_views l.station.jobs);
      others : OthersStay l.job (job_views l.fn.station.jobs) (job_views l.station.jobs);
      way : (phase : Phase) (left : ℕ) → job_left_at (job_views l.fn.station.jobs) l.job ≡ Some left
          → phase_at (job_views l.fn.station.jobs) l.job ≡ Some phase → IsOnWay g.H.Host.model l.job phase left l.fn.station l.station;
    }

abbrev pub decreases-loop-station : goal.decreases-loop-station
decreases-loop-station g l = way_left (l.place + 1 - length l.station.journal) (job_left_at (job_views l.station.jobs) l.job)
