use Rattle.std.proofs.Common.{ap, subst, sym, ◌∙◌}
use Rattle.xc_station.specs.Stations.{StationView}
use Rattle.xc_live.specs.Closing.{NobodyIsActive}
use Rattle.xc_live.proofs.Dismissed.{desk_quiet}
use Rattle.xc_live.proofs.HandedOut.{waits_same}
use Rattle.xc_live.proofs.desk.Desk.close.Goals as goal

pub dismiss_all-requires : goal.dismiss_all-requires
dismiss_all-requires g c =
    desk_quiet g.H.Host.model c.self.inside.station c.self.invariant
    (subst (λ (s : StationView _). NobodyIsActive s) (sym c.self.view_is) c.requires)

pub returns-clause-held : goal.returns-clause-held
returns-clause-held g c =
    let done = c.finish.ensures.handed in
    let same = c.dismiss_all.ensures.same in
    waits_same c.args.self c.finish.result.journal
    (done.3 ∙ same.0 ∙ ap (λ (s : StationView _). s.journal) c.self.view_is)
    (c.finish.ensures.gone ∙ same.1 ∙ ap (λ (s : StationView _). s.gone) c.self.view_is)
