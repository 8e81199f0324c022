use Rattle.std.proofs.Common.{◌≡◌, ◌≤◌, ◌-◌, ℕ, false, length}
use Rattle.std.specs.Prelude.{is_some}
use Rattle.xc_live.specs.Told.{tx_at}
use Rattle.xc_station.specs.Jobs.{job_views}
use Rattle.xc_live.proofs.desk.quiet.nobody_has_one.Given as goal

-- no client up to this one has a transaction
abbrev pub invariant-loop-client : goal.invariant-loop-client
invariant-loop-client g l =
    record {
      within : l.client ≤ length l.station.jobs;
      quiet : (number : ℕ) → number ≤ l.client → is_some (tx_at (job_views l.station.jobs) number) ≡ false;
    }

abbrev pub decreases-loop-client : goal.decreases-loop-client
decreases-loop-client g l = length l.station.jobs - l.client
