use Rattle.std.proofs.Common.{◌-◌, subst, sym}
use Rattle.xc_station.specs.Stations.{now_of, setting_of}
use Rattle.xc_station.specs.Waits.{IsFairWait}
use Rattle.xc_station.proofs.Runs.{event_noted, turn_goes}
use Rattle.xc_station.proofs.WaitsKept.{fair_wait}
use Rattle.xc_station.proofs.station.Station.turn.Goals as goal

pub returns-clause-event : goal.returns-clause-event
returns-clause-event g c =
    let went = c.advance-answer.ensures in
    event_noted c.args.self.now c.advance-answer.new.self c.note_turn.new.self _
    (turn_goes g.H.Host.model c.args.job c.args.self.now c.advance-answer.new.self c.advance-answer.result went.same went.row
    went.changes)
    went.quiet c.note_turn.ensures.few c.note_turn.ensures.noted

pub returns-clause-waiting : goal.returns-clause-waiting
returns-clause-waiting g c =
    let model = g.H.Host.model in
    subst (λ v. IsFairWait (setting_of model c.args.self.now) (c.args.job - 1) (now_of model c.args.self.now) c.advance-answer.result (now_of model v))
    (sym c.note_turn.ensures.noted) (fair_wait _ _ _ _ _ c.advance-answer.ensures.row)
