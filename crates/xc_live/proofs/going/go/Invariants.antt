use Rattle.std.proofs.Common.{◌-◌, ℕ, List, length}
use Rattle.xc_script.specs.declared.ask.Ask.{Ask}
use Rattle.xc_model.specs.Moment.{TxView}
use Rattle.xc_live.specs.GivingWay.{GiveWay}
use Rattle.xc_live.specs.Moving.{AsksAt}
use Rattle.xc_live.proofs.going.go.Given as goal

-- those so far gave way, and it asks the same
abbrev pub invariant-loop : goal.invariant-loop
invariant-loop g l =
    record {
      way : (tx : TxView) (asked : Ask) → AsksAt g.H.Host.model l.client tx asked l.fn.station
          → (victims : List ℕ) × GiveWay g.H.Host.model l.client victims (record { old = l.fn.station; new = l.station })
          × AsksAt g.H.Host.model l.client tx asked l.station;
    }

abbrev pub decreases-loop : goal.decreases-loop
decreases-loop g l = 4294967296 - length l.station.journal
