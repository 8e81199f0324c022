use Rattle.std.proofs.Common.{◌≡◌, ◌<◌, ◌≤◌, ◌-◌, ℕ, length, false}
use Rattle.xc_station.specs.Stations.{KeepsEvents, live_at, now_of}
use Rattle.xc_station.proofs.station.Station.take_next.Given as goal

-- nothing but `taken` changes, and the jobs that were passed have ended
abbrev pub invariant-loop-self : goal.invariant-loop-self
invariant-loop-self g l =
    record {
      opening : l.self.opening ≡ l.fn.self.opening;
      rules : l.self.rules ≡ l.fn.self.rules;
      jobs : l.self.jobs ≡ l.fn.self.jobs;
      now : now_of g.H.Host.model l.self ≡ now_of g.H.Host.model l.fn.self;
      quiet : KeepsEvents l.fn.self l.self;
      rises : l.fn.self.taken ≤ l.self.taken;
      passed : (other : ℕ) → l.fn.self.taken < other → other ≤ l.self.taken → live_at l.fn.self.jobs other ≡ false;
    }

abbrev pub decreases-loop-self : goal.decreases-loop-self
decreases-loop-self g l = length l.self.jobs - l.self.taken
