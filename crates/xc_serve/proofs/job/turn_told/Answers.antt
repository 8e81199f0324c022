use Rattle.std.proofs.Common.{ap, length, subst, sym, ◌∙◌}
use Rattle.std.specs.declared.option.Option.TheVariants.{Some}
use Rattle.xc_data.specs.declared.entry.Event.TheVariants.{Turned}
use Rattle.xc_station.specs.Events.{IsEvent}
use Rattle.xc_station.specs.Passes.{PassView, meaning_of}
use Rattle.xc_station.specs.Stations.{StationView}
use Rattle.xc_model.specs.declared.origin.Origin.{Origin}
use Rattle.xc_turnstile.specs.Views.{added}
use Rattle.xc_serve.specs.Gains.{TellsTurn}
use Rattle.xc_serve.proofs.Blocks.{own_known}
use Rattle.xc_serve.proofs.Gained.{unboxed}
use Rattle.xc_runner.proofs.Laws.{event_next}
use Rattle.xc_turnstile.proofs.Laws.{gains_at}
use Rattle.xc_model.specs.Live.{IsScripted}
use Rattle.xc_serve.proofs.job.turn_told.Goals as goal

pub returns : goal.returns
returns g c =
    let entered = c.enter-station.result in
    let was = entered.0.value in
    let turned = c.take_turn-answer.result in
    let is = c.take_turn-answer.new.station in
    let event = Turned c.args.job turned.0 in
    let at = c.deref_mut.ensures.value in
    let tells = subst (λ (s : StationView g.row.H.Denot). TellsTurn is.opening.script (record { old = s.journal; new = is.journal }) c.args.job turned.0
    (record { old = c.args.text; new = turned.1 })) at c.take_turn-answer.ensures.tells in
    let left = c.leave.result in
    let next = event_next was is event (subst (λ (s : StationView g.row.H.Denot). IsEvent s is event) at c.take_turn-answer.ensures.event) in
    let gained = gains_at meaning_of c.args.pass entered.1 was is event (unboxed meaning_of c.args.pass entered.1 entered.0 c.enter-station.ensures) next left
    c.leave.ensures.table c.leave.ensures.view in
    let origin = gained.goes.origin ∙ (c.enter-station.ensures.origin ∙ ap (λ (o : Origin). Some o) (sym next.origin)) in
    let seen = ap (λ (v : PassView). v.seen) c.leave.ensures.view in
    record {
      entries = added (length was.journal) is.journal;
      block = tells.block;
      gains = gained;
      own = own_known left.view (meaning_of.origin is) is.journal origin seen c.args.job tells.block turned.0 tells.own;
      grows = tells.grows;
    }

pub take_turn-answer-requires : goal.take_turn-answer-requires
take_turn-answer-requires g c =
    let entered = c.enter-station.result in
    subst (λ (s : StationView g.row.H.Denot). IsScripted s.opening.script) (sym c.deref_mut.ensures.value)
    (c.requires.scripted (meaning_of.origin entered.0.value) c.enter-station.ensures.origin)
