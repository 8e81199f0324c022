use Rattle.std.proofs.Common.{[], ◌∷◌, ap, subst, sym, ◌∙◌, slice_get, length}
use Rattle.xc_data.specs.declared.entry.Event.TheVariants.{Looked}
use Rattle.xc_station.specs.Events.{IsEvent}
use Rattle.xc_station.specs.Passes.{PassView, meaning_of}
use Rattle.xc_station.specs.Stations.{StationView}
use Rattle.xc_serve.specs.Answers.{text_at}
use Rattle.xc_serve.specs.Gains.{IsTold}
use Rattle.xc_serve.proofs.Gained.{gains_quietly, unboxed}
use Rattle.xc_runner.proofs.Laws.{event_next}
use Rattle.xc_serve.proofs.Told.{look_is}
use Rattle.xc_model.specs.Live.{IsScripted}
use Rattle.xc_serve.proofs.ask.look_up.Goals as goal

pub returns : goal.returns
returns g c =
    let entered = c.enter-station.result in
    let was = entered.0.value in
    let is = c.look_for-length.new.station in
    let n = c.look_for-length.result.0 in
    let did = c.look_for-length.ensures in
    let at = c.deref_mut.ensures.value in
    let same = did.same ∙ ap (λ (s : StationView g.row.H.Denot). s.journal) at in
    let seen = ap (λ (v : PassView). v.seen) c.leave.ensures.view ∙ same in
    record {
      events = Looked n ∷ [];
      entries = [];
      answer = text_at (slice_get was.journal c.args.place);
      gains = gains_quietly meaning_of c.args.pass entered.1 was is (Looked n) (unboxed meaning_of c.args.pass entered.1 entered.0 c.enter-station.ensures)
          (event_next was is (Looked n) (subst (λ (s : StationView g.row.H.Denot). IsEvent s is (Looked n)) at did.event)) c.leave.result c.leave.ensures.table
          c.leave.ensures.view same;
      is = look_is c.leave.result.view.seen was.journal n c.args.place seen
          (did.length ∙ ap (λ (s : StationView g.row.H.Denot). length s.journal) at);
      told_is = subst (λ (s : StationView g.row.H.Denot). IsTold c.look_for-length.result.1 (text_at (slice_get s.journal c.args.place))) at did.told;
      starved = λ none. (λ e. cc, λ e. cc);
    }

pub look_for-length-requires : goal.look_for-length-requires
look_for-length-requires g c =
    let entered = c.enter-station.result in
    subst (λ (s : StationView g.row.H.Denot). IsScripted s.opening.script) (sym c.deref_mut.ensures.value)
    (c.requires.scripted (meaning_of.origin entered.0.value) c.enter-station.ensures.origin)
