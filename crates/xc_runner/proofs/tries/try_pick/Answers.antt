use Rattle.std.proofs.Common.{refl, arith, ap, subst, ◌∙◌}
use Rattle.xc_data.specs.declared.entry.Event.TheVariants.{Picked}
use Rattle.xc_model.specs.Moment.{Moment}
use Rattle.xc_station.specs.Events.{IsEvent}
use Rattle.xc_station.specs.Passes.{meaning_of}
use Rattle.xc_station.specs.Stations.{StationView}
use Rattle.xc_turnstile.specs.Insides.{IsInside}
use Rattle.xc_runner.proofs.Steps.{event_next, gains_once, mine_quietly}
use Rattle.xc_runner.proofs.tries.try_pick.Goals as goal

pub returns-in-Inside-clause-tried : goal.returns-in-Inside-clause-tried
returns-in-Inside-clause-tried g c =
    let was = c.in-Inside.value.value in
    let is = c.next_job-job.new.self in
    let event = Picked c.next_job-job.result in
    let e = c.in-Inside.ensures in
    let inside : IsInside meaning_of c.args.pass c.in-Inside.hold was =
    record { table = e.0; begins = e.1; origin = e.2; lost = c.args.pass.view.lost; more = omega arith; view = e.3 } in
    gains_once meaning_of c.args.pass c.in-Inside.hold was is event inside refl
    (event_next was is event (subst (λ (s : StationView g.row.H.Denot). IsEvent s is event) c.deref_mut.ensures.value c.next_job-job.ensures.event))
    c.leave.result c.leave.ensures.table c.leave.ensures.view

pub returns-in-Inside-clause-mine : goal.returns-in-Inside-clause-mine
returns-in-Inside-clause-mine g c =
    let was = c.in-Inside.value.value in
    let is = c.next_job-job.new.self in
    let event = Picked c.next_job-job.result in
    let e = c.in-Inside.ensures in
    let inside : IsInside meaning_of c.args.pass c.in-Inside.hold was =
    record { table = e.0; begins = e.1; origin = e.2; lost = c.args.pass.view.lost; more = omega arith; view = e.3 } in
    mine_quietly meaning_of c.args.pass c.in-Inside.hold was is event inside
    (ap (λ (m : Moment). m.journal) c.next_job-job.ensures.same.2 ∙ ap (λ (s : StationView g.row.H.Denot). s.journal) c.deref_mut.ensures.value)
    c.leave.result c.leave.ensures.view
