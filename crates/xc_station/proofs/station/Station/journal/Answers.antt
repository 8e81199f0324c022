use Rattle.std.proofs.Common.{ap, subst, sym, ◌∙◌}
use Rattle.xc_model.specs.Live.{IsScripted}
use Rattle.xc_station.specs.Stations.{StationView}
use Rattle.xc_station.proofs.station.Station.journal.Goals as goal

pub returns-clause-all : goal.returns-clause-all
returns-clause-all g c own =
    c.as_slice.ensures.all (c.self.invariant.unparted
    (subst (λ (v : StationView g.row.H.Denot). IsScripted v.opening.script) (sym c.self.view_is) own))
    ∙ ap (λ (v : StationView g.row.H.Denot). v.journal) c.self.view_is
