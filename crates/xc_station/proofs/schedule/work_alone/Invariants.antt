use Rattle.std.proofs.Common.{◌≡◌, ◌-◌, ◌<◌, ◌≤◌, ℕ, false}
use Rattle.xc_model.specs.Alone.{AreAlone}
use Rattle.xc_model.specs.Live.{IsScripted}
use Rattle.xc_station.specs.Stations.{GoesOn, live_at, now_of}
use Rattle.xc_station.proofs.schedule.work_alone.Given as goal

-- the jobs that were taken have ended, and the others are as they were; from a start on the last of them was alone
abbrev pub invariant-loop-job : goal.invariant-loop-job
invariant-loop-job g l =
    record {
      goes : GoesOn l.fn.station l.station;
      scripted : IsScripted l.station.opening.script;
      rises : l.fn.station.taken ≤ l.station.taken;
      ended : (other : ℕ) → l.fn.station.taken < other → other ≤ l.station.taken → live_at l.station.jobs other ≡ false;
      others : (other : ℕ) → other ≤ l.fn.station.taken → live_at l.station.jobs other ≡ live_at l.fn.station.jobs other;
      alone : l.fn.station.taken ≡ 0 → AreAlone (now_of g.H.Host.model l.fn.station) 0
          → AreAlone (now_of g.H.Host.model l.station) (l.station.taken - 1);
    }

abbrev pub decreases-loop-job : goal.decreases-loop-job
decreases-loop-job g l = 1000 - l.station.taken
