use Rattle.std.proofs.Common.{refl, sym, subst}
use Rattle.std.specs.Prelude.{IfSome, map, string_bytes}
use Rattle.xc_turns.proofs.Laws.{alone_opened}
use Rattle.xc_app.specs.Followed.{IsFollowed}
use Rattle.xc_app.proofs.Finishing.{finished}
use Rattle.xc_app.proofs.Following.{followed}
use Rattle.xc_outcome.proofs.Laws.{starts_scripted}
use Rattle.xc_model.specs.Live.{IsScripted}
use Rattle.xc_station.specs.declared.run_result.Opening.{Opening}
use Rattle.xc_app.proofs.run.run_without_threads.Goals as goal

pub returns-in-Ok-2-clause-finished : goal.returns-in-Ok-2-clause-finished
returns-in-Ok-2-clause-finished g c =
    let start = c.in-Ok.ensures.started in
    let turns = c.take_turns-station.ensures in
    let (end, some, left, meant, due, is, written) = c.finish_run.ensures.end in
    finished _ _ _ _ _ meant _ due written c.finish_run.result _ _ end refl some c.finish_run.ensures.host start turns.origin
    (λ one. turns.alone one (alone_opened _ _ start.prepared.start.opened)) left is

pub returns-in-Ok-2-clause-followed : goal.returns-in-Ok-2-clause-followed
returns-in-Ok-2-clause-followed g c =
    let turns = c.take_turns-station.ensures in
    let (end, some, left, meant, due, is, written) = c.finish_run.ensures.end in
    subst (λ o. IfSome o (IsFollowed g.H.Host.model (map string_bytes c.args.words.now)
    (record { old = g.S.Source.told c.args.source.now; new = g.S.Source.told c.start.new.source }) c.args.host)) (sym some)
    (followed _ _ _ _ _ _ end c.in-Ok.ensures.started turns.listed turns.seeded left)

pub take_turns-station-requires-clause-scripted : goal.take_turns-station-requires-clause-scripted
take_turns-station-requires-clause-scripted g c = starts_scripted _ _ _ _ _ c.in-Ok.ensures.started.prepared.start

pub finish_run-requires-clause-scripted : goal.finish_run-requires-clause-scripted
finish_run-requires-clause-scripted g c =
    subst (λ (o : Opening). IsScripted o.script) (sym c.take_turns-station.ensures.origin.opening)
    (starts_scripted _ _ _ _ _ c.in-Ok.ensures.started.prepared.start)
