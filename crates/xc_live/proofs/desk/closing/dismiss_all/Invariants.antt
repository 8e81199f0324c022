use Rattle.std.proofs.Common.{◌≡◌, ◌≤◌, ◌-◌, ℕ, false, length}
use Rattle.xc_live.specs.Closing.{AreQuiet}
use Rattle.xc_station.specs.Stations.{live_at, now_of, setting_of}
use Rattle.xc_live.proofs.desk.closing.dismiss_all.Given as goal

-- all clients up to this one have ended
abbrev pub invariant-loop-client : goal.invariant-loop-client
invariant-loop-client g l =
    record {
      quiet : AreQuiet (setting_of g.H.Host.model l.station) (now_of g.H.Host.model l.station);
      count : length l.station.jobs ≡ length l.fn.station.jobs;
      within : l.client ≤ length l.station.jobs;
      ended : (number : ℕ) → number ≤ l.client → live_at l.station.jobs number ≡ false;
      journal : l.station.journal ≡ l.fn.station.journal;
      gone : l.station.gone ≡ l.fn.station.gone;
      words : l.station.words ≡ l.fn.station.words;
      opening : l.station.opening ≡ l.fn.station.opening;
      rules : l.station.rules ≡ l.fn.station.rules;
    }

abbrev pub decreases-loop-client : goal.decreases-loop-client
decreases-loop-client g l = length l.station.jobs - l.client
