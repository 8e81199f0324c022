use Rattle.std.proofs.Common.{sym, subst, ◌∙◌}
use Rattle.xc_station.specs.Stations.{IsStepOf}
use Rattle.xc_station.proofs.Runs.{live_has_number, turn_goes, turn_works}
use Rattle.xc_station.proofs.schedule.step.Goals as goal

pub returns-clause-goes : goal.returns-clause-goes
returns-clause-goes g c = turn_goes g.H.Host.model c.args.job _ _ _ c.turn.ensures.same c.turn.ensures.row c.turn.ensures.changes

pub returns-clause-works : goal.returns-clause-works
returns-clause-works g c =
    turn_works g.H.Host.model c.args.job _ _ _ c.turn.ensures.same c.turn.ensures.row c.turn.ensures.changes
    (live_has_number c.args.station.now.jobs c.args.job (sym c.live.ensures ∙ c.if-not-live.false))

pub returns-clause-step : goal.returns-clause-step
returns-clause-step g c =
    subst (IsStepOf g.H.Host.model c.args.job (record { old = c.args.station.now; new = c.turn.new.self })) (sym (sym c.live.ensures ∙ c.if-not-live.false))
    (c.turn.result, (c.turn.ensures.row, c.turn.ensures.same))
