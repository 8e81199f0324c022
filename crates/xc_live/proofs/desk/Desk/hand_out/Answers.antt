use Rattle.std.proofs.Common.{◌≡◌, true, false, subst, sym}
use Rattle.xc_station.specs.Stations.{StationView}
use Rattle.xc_live.specs.Closing.{NobodyIsActive}
use Rattle.xc_live.proofs.HandedOut.{none_is_active}
use Rattle.xc_live.proofs.desk.Desk.hand_out.Goals as goal

pub returns-in_err-hand_out-clause-succeeds : goal.returns-in_err-hand_out-clause-succeeds
returns-in_err-hand_out-clause-succeeds g c nobody =
    let done : false ≡ true = c.in_err-hand_out.ensures.succeeds
    (none_is_active c.self.inside.station (subst (λ (s : StationView _). NobodyIsActive s) (sym c.self.view_is) nobody)) in
    cc done
