use Rattle.std.proofs.Common.{refl, sym, subst}
use Rattle.std.specs.Prelude.{IfSome, map, string_bytes}
use Rattle.xc_app.specs.Followed.{IsFollowed}
use Rattle.xc_app.specs.Headline.{IsFinished}
use Rattle.xc_outcome.specs.Outcomes.{IsWrittenAs}
use Rattle.xc_app.proofs.Finishing.{finished, threads_not_alone}
use Rattle.xc_app.proofs.Following.{followed_by_workers}
use Rattle.xc_outcome.proofs.Laws.{starts_scripted}
use Rattle.xc_model.specs.Live.{IsScripted}
use Rattle.xc_station.specs.declared.run_result.Opening.{Opening}
use Rattle.xc_app.proofs.run.xcalls_run.Goals as goal

-- the workers' run is finished
by_workers : (g : _) (c : goal.Joined-chosen g) → IsFinished g.H.Host.model (map string_bytes c.args.words.now) (record {
  source = record { old = g.S.Source.told c.args.source.now; new = g.S.Source.told c.run_without_threads.new.source };
  sink = record { old = g.K.Sink.told c.args.sink.now; new = g.K.Sink.told c.finish_run.new.sink };
}) c.args.host c.finish_run.result
by_workers g c =
    let (needs, same, start) = c.in-Started.ensures.started in
    let turns = c.take_together-station.ensures in
    let (end, some, left, meant, due, is, written) = c.finish_run.ensures.end in
    finished _ _ _ _ _ meant _ due
    (subst (λ sink. IsWrittenAs meant due c.finish_run.result.status (record { old = g.K.Sink.told sink; new = g.K.Sink.told c.finish_run.new.sink }))
    same written)
    c.finish_run.result _ _ end refl some c.finish_run.ensures.host start turns.origin (λ one. absurd (threads_not_alone _ needs one)) left is

pub returns-in-Started-clause-answered : goal.returns-in-Started-clause-answered
returns-in-Started-clause-answered g c = (by_workers g c).answered

pub returns-in-Started-clause-run : goal.returns-in-Started-clause-run
returns-in-Started-clause-run g c = (by_workers g c).run

pub returns-in-Started-clause-complete : goal.returns-in-Started-clause-complete
returns-in-Started-clause-complete g c = (by_workers g c).complete

pub returns-in-Started-clause-followed : goal.returns-in-Started-clause-followed
returns-in-Started-clause-followed g c =
    let (needs, same, start) = c.in-Started.ensures.started in
    let (end, some, left, meant, due, is, written) = c.finish_run.ensures.end in
    subst (λ o. IfSome o (IsFollowed g.H.Host.model (map string_bytes c.args.words.now)
    (record { old = g.S.Source.told c.args.source.now; new = g.S.Source.told c.run_without_threads.new.source }) c.args.host)) (sym some)
    (followed_by_workers _ _ _ _ _ _ end start needs left)

pub take_together-station-requires-clause-scripted : goal.take_together-station-requires-clause-scripted
take_together-station-requires-clause-scripted g c lifetimes within =
    let (needs, same, start) = c.in-Started.ensures.started in
    starts_scripted _ _ _ _ _ start.prepared.start

pub finish_run-requires-clause-scripted : goal.finish_run-requires-clause-scripted
finish_run-requires-clause-scripted g c =
    let (needs, same, start) = c.in-Started.ensures.started in
    subst (λ (o : Opening). IsScripted o.script) (sym c.take_together-station.ensures.origin.opening) (starts_scripted _ _ _ _ _ start.prepared.start)
