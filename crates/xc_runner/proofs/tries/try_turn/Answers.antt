use Rattle.std.proofs.Common.{refl, arith, subst}
use Rattle.xc_data.specs.declared.entry.Event.TheVariants.{Turned}
use Rattle.xc_station.specs.Events.{IsEvent}
use Rattle.xc_station.specs.Passes.{meaning_of}
use Rattle.xc_station.specs.Stations.{StationView}
use Rattle.xc_turnstile.specs.Insides.{IsInside}
use Rattle.xc_runner.proofs.Steps.{event_next, gains_once}
use Rattle.xc_runner.proofs.tries.try_turn.Goals as goal

pub returns-in-Inside : goal.returns-in-Inside
returns-in-Inside g c =
    let was = c.in-Inside.value.value in
    let is = c.try_turn-answer.new.self in
    let event = Turned c.args.job c.try_turn-answer.result in
    let e = c.in-Inside.ensures in
    let inside : IsInside meaning_of c.args.pass c.in-Inside.hold was =
    record { table = e.0; begins = e.1; origin = e.2; lost = c.args.pass.view.lost; more = omega arith; view = e.3 } in
    gains_once meaning_of c.args.pass c.in-Inside.hold was is event inside refl
    (event_next was is event (subst (λ (s : StationView g.row.H.Denot). IsEvent s is event) c.deref_mut.ensures.value c.try_turn-answer.ensures.event))
    c.leave.result c.leave.ensures.table c.leave.ensures.view
