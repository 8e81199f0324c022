use Rattle.std.proofs.Common.{map, string_bytes, refl, sym, subst}
use Rattle.std.specs.Prelude.{IsSome}
use Rattle.xc_data.specs.Step.{Step}
use Rattle.xc_links.specs.Links.{LinksView}
use Rattle.xc_sessions.specs.Headline.{IsStatusOf, wanted_of}
use Rattle.xc_sessions.specs.Options.{serve_settings_of}
use Rattle.xc_sessions.proofs.Endings.{status_by_counts, sessions_so}
use Rattle.xc_sessions.proofs.Finishing.{serve_finished}
use Rattle.xc_outcome.proofs.Laws.{starts_scripted}
use Rattle.xc_model.specs.Live.{IsScripted}
use Rattle.xc_station.specs.declared.run_result.Opening.{Opening}
use Rattle.xc_sessions.proofs.run.serve_run.Goals as goal

pub returns-in-Ok-clause-served : goal.returns-in-Ok-clause-served
returns-in-Ok-clause-served g c =
    let (end, some, left, meant, due, is, written) = c.finish_run-finish.ensures.end in
    let finish = c.finish_run-finish.result in
    let links : Step (LinksView g.row.M.Denot) = record { old = g.L.Links.told c.args.links; new = g.L.Links.told c.work-worked.result.links } in
    record {
      finish = finish;
      finished = serve_finished _ _ _ _ _ meant _ due written finish _ _ end refl some c.finish_run-finish.ensures.host c.in-Ok.ensures.started
          c.work-worked.ensures.origin left is;
      end = refl;
      host = refl;
      ends = subst (IsStatusOf finish links) (sym c.status_of-status.ensures)
          (status_by_counts finish links (subst IsSome (sym some) refl) _ _ _ c.faults-failed_before.ensures c.faults.ensures);
    }

pub returns-in-Ok-clause-sessions : goal.returns-in-Ok-clause-sessions
returns-in-Ok-clause-sessions g c =
    let (end, some, left, meant, due, is, written) = c.finish_run-finish.ensures.end in
    let links : Step (LinksView g.row.M.Denot) = record { old = g.L.Links.told c.args.links; new = g.L.Links.told c.work-worked.result.links } in
    let words = map string_bytes c.args.words.now in
    let wanted = wanted_of (serve_settings_of words) in
    let sessions = c.work-worked.result.sessions in
    rw some (rw c.listed.ensures (rw c.status_of-status.ensures (rw c.is_some.ensures
    (sessions_so g.M.Duplex.told links c.work-worked.result.station.journal end c.finish_run-finish.result.status _ _ c.faults-failed_before.ensures
    c.faults.ensures left.journal words c.in-Ok.started.chosen sessions c.in-Ok.ensures.started.chose c.work-worked.ensures.sessions))))

pub work-worked-requires-clause-scripted : goal.work-worked-requires-clause-scripted
work-worked-requires-clause-scripted g c lifetimes within = starts_scripted _ _ _ _ _ c.in-Ok.ensures.started.prepared.start

pub finish_run-finish-requires-clause-scripted : goal.finish_run-finish-requires-clause-scripted
finish_run-finish-requires-clause-scripted g c =
    subst (λ (o : Opening). IsScripted o.script) (sym c.work-worked.ensures.origin.opening)
    (starts_scripted _ _ _ _ _ c.in-Ok.ensures.started.prepared.start)
