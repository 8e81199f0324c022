use Rattle.std.proofs.Common.{refl, map, string_bytes, subst, sym}
use Rattle.xc_coop.specs.Headline.{IsCoopFinished}
use Rattle.xc_coop.proofs.Finishing.{coop_finished}
use Rattle.xc_outcome.proofs.Laws.{starts_scripted}
use Rattle.xc_model.specs.Live.{IsScripted}
use Rattle.xc_station.specs.declared.run_result.Opening.{Opening}
use Rattle.xc_coop.proofs.run.coop_run.Goals as goal

-- the run is finished
by_polls : (g : _) (c : goal.After-finish_run g) → IsCoopFinished g.H.Host.model (map string_bytes c.args.words.now) (record {
  source = record { old = g.S.Source.told c.args.source.now; new = g.S.Source.told c.start.new.source };
  sink = record { old = g.K.Sink.told c.args.sink.now; new = g.K.Sink.told c.finish_run.new.sink };
}) c.args.host c.finish_run.result
by_polls g c =
    let (end, some, left, meant, due, is, written) = c.finish_run.ensures.end in
    coop_finished _ _ _ _ _ meant _ due written c.finish_run.result _ _ end refl some c.finish_run.ensures.host c.in-Ok.ensures.started
    c.take_cooperatively-station.ensures.origin left is

pub returns-in-Ok-clause-answered : goal.returns-in-Ok-clause-answered
returns-in-Ok-clause-answered g c = (by_polls g c).answered

pub returns-in-Ok-clause-run : goal.returns-in-Ok-clause-run
returns-in-Ok-clause-run g c = (by_polls g c).run

pub returns-in-Ok-clause-complete : goal.returns-in-Ok-clause-complete
returns-in-Ok-clause-complete g c = (by_polls g c).complete

pub take_cooperatively-station-requires-clause-scripted : goal.take_cooperatively-station-requires-clause-scripted
take_cooperatively-station-requires-clause-scripted g c = starts_scripted _ _ _ _ _ c.in-Ok.ensures.started.prepared.start

pub finish_run-requires-clause-scripted : goal.finish_run-requires-clause-scripted
finish_run-requires-clause-scripted g c =
    subst (λ (o : Opening). IsScripted o.script) (sym c.take_cooperatively-station.ensures.origin.opening)
    (starts_scripted _ _ _ _ _ c.in-Ok.ensures.started.prepared.start)
