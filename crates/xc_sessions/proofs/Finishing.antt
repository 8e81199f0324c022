-- A run with sessions that was started, and all of whose jobs have ended, is finished as the top call promises.
use Rattle.std.proofs.Common.{◌≡◌, ℕ, List, ap, sym, subst}
use Rattle.std.specs.declared.option.Option.TheVariants.{None, Some}
use Rattle.std.specs.Option.{option_map}
use Rattle.xc_data.specs.Step.{Step}
use Rattle.xc_edge.specs.View.{StreamView}
use Rattle.xc_host.specs.Model.{HostModel}
use Rattle.xc_outcome.proofs.Laws.{answered_by_run, full_as_said, is_run, is_run_of}
use Rattle.xc_outcome.specs.declared.finish.Finish.{Finish}
use Rattle.xc_outcome.specs.declared.finish.Status.{Status}
use Rattle.xc_outcome.specs.Outcomes.{IsEndOf, IsWrittenAs}
use Rattle.xc_outcome.specs.Said.{Edges, IsDueWithEnd}
use Rattle.xc_station.specs.declared.run_result.End.{End}
use Rattle.xc_station.specs.Stations.{StationView, KeepsOrigin}
use Rattle.xc_sessions.specs.declared.chosen.ServeChosen.{ServeChosen}
use Rattle.xc_sessions.specs.declared.start.ServeStarted.{ServeStarted}
use Rattle.xc_sessions.specs.Headline.{IsServeFinished, serve_choice_in, serve_choice_of}
use Rattle.xc_sessions.specs.Lines.{serve_usage_line}
use Rattle.xc_sessions.specs.Options.{serve_settings_of}
use Rattle.xc_sessions.specs.Parts.{IsServeStarted}

-- what words choose makes their choice
same_choice : (words : List (List ℕ)) (chosen : ServeChosen) → serve_settings_of words ≡ Some chosen → serve_choice_of words ≡ Some (serve_choice_in chosen)
same_choice words chosen chose = ap (option_map serve_choice_in) chose

-- where all jobs of the run that was started have ended
pub serve_finished : {H : Type 0} (model : HostModel H) (words : List (List ℕ)) (source sink : Step StreamView) (host : H) (meant ends : Status)
    (due : List ℕ) → IsWrittenAs meant due ends sink → (finish : Finish H) (started : ServeStarted H) (last : StationView H) (end : End H)
    → finish.status ≡ ends → finish.end ≡ Some end → finish.host ≡ None → IsServeStarted model words source host started
    → KeepsOrigin started.station last → IsEndOf model last end → IsDueWithEnd None meant end due
    → IsServeFinished model words (record { source = source; sink = sink }) host finish
serve_finished model words source sink host meant ends due written finish started last end same some none start origin left is =
    let edges : Edges = record { source = source; sink = sink } in
    let chosen = started.chosen in
    let chose = same_choice words chosen start.chose in
    let first = start.prepared.start in
    let over = (is_run_of model chosen.rules host started.station last end origin left start.prepared.bytes first).1 in
    let attempts = start.bounds.rules.attempts.0 in
    let tries = start.bounds.rules.undo_tries.0 in
    subst (IsServeFinished model words edges host)
    (λ i. record { status = sym same i; end = sym some i; host = sym none i })
    (record {
      answered = answered_by_run model edges meant ends due written (serve_choice_of words) (serve_choice_in chosen) serve_usage_line host end chose is over;
      run = is_run model (serve_choice_of words) (serve_choice_in chosen) source host started.station last end chose start.prepared origin left;
      complete = full_as_said model edges meant ends due written chosen.rules host end None attempts tries is over;
      host = tt;
      one = tt;
    })
