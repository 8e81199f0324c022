use Rattle.xc_script.specs.declared.ask.Ask.{Ask}
use Rattle.xc_model.specs.Moment.{TxView}
use Rattle.xc_station.specs.Jobs.{job_views}
use Rattle.xc_live.specs.Moving.{AskedAt, IsSettledSo, back_turns_at}
use Rattle.xc_live.proofs.going.settle.Given as goal

-- so many turns were taken, and it is on its way still
abbrev pub invariant-loop-station : goal.invariant-loop-station
invariant-loop-station g l =
    record {
      run : (tx : TxView) (asked : Ask) → AskedAt g.H.Host.model l.client tx asked l.fn.station
          → IsSettledSo g.H.Host.model l.client tx asked (record { old = l.fn.station; new = l.station });
    }

abbrev pub decreases-loop-station : goal.decreases-loop-station
decreases-loop-station g l = back_turns_at (job_views l.station.jobs) l.client
