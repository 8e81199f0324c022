use Rattle.std.proofs.Common.{List, ap, subst, sym, ◌∙◌}
use Rattle.std.specs.Prelude.{slice_get}
use Rattle.xc_data.specs.declared.entry.Entry.{Entry}
use Rattle.xc_model.specs.Live.{IsScripted}
use Rattle.xc_station.specs.Stations.{StationView}
use Rattle.xc_serve.specs.Answers.{text_at}
use Rattle.xc_serve.specs.Gains.{IsTold}
use Rattle.xc_serve.proofs.ask.look_for.Goals as goal

pub returns-clause-told : goal.returns-clause-told
returns-clause-told g c =
    let still = c.look-length.ensures.noted in
    let own = subst (λ (s : StationView _). IsScripted s.opening.script) (sym still) c.requires in
    subst (λ (es : List Entry). IsTold c.entry_in.result (text_at (slice_get es c.args.place)))
    (c.journal.ensures.all own ∙ ap (λ (s : StationView _). s.journal) still) c.entry_in.ensures
