-- A cooperative run that was started, and all of whose jobs have ended, is finished as the top call promises.
use Rattle.std.proofs.Common.{◌≡◌, ℕ, List, ap, sym, subst}
use Rattle.std.specs.declared.option.Option.TheVariants.{None, Some}
use Rattle.std.specs.Option.{option_map}
use Rattle.xc_data.specs.Step.{Step}
use Rattle.xc_edge.specs.View.{StreamView}
use Rattle.xc_host.specs.Model.{HostModel}
use Rattle.xc_outcome.proofs.Laws.{answered_by_run, full_as_said, is_run, is_run_of}
use Rattle.xc_outcome.specs.declared.finish.Finish.{Finish}
use Rattle.xc_outcome.specs.declared.finish.Status.{Status}
use Rattle.xc_outcome.specs.Outcomes.{IsEndOf, IsWrittenAs}
use Rattle.xc_outcome.specs.Said.{Edges, IsDueWithEnd}
use Rattle.xc_station.specs.declared.run_result.End.{End}
use Rattle.xc_station.specs.Stations.{StationView, KeepsOrigin}
use Rattle.xc_coop.specs.declared.chosen.CoopChosen.{CoopChosen}
use Rattle.xc_coop.specs.declared.start.CoopStarted.{CoopStarted}
use Rattle.xc_coop.specs.Headline.{IsCoopFinished, coop_choice_in, coop_choice_of}
use Rattle.xc_coop.specs.Lines.{coop_usage_line}
use Rattle.xc_coop.specs.Options.{coop_settings_of}
use Rattle.xc_coop.specs.Parts.{IsCoopStarted}

-- what words choose makes their choice
same_choice : (words : List (List ℕ)) (chosen : CoopChosen) → coop_settings_of words ≡ Some chosen → coop_choice_of words ≡ Some (coop_choice_in chosen)
same_choice words chosen chose = ap (option_map coop_choice_in) chose

-- where all jobs of the run that was started have ended
pub coop_finished : {H : Type 0} (model : HostModel H) (words : List (List ℕ)) (source sink : Step StreamView) (host : H) (meant ends : Status)
    (due : List ℕ) → IsWrittenAs meant due ends sink → (finish : Finish H) (started : CoopStarted H) (last : StationView H) (end : End H)
    → finish.status ≡ ends → finish.end ≡ Some end → finish.host ≡ None → IsCoopStarted model words source host started
    → KeepsOrigin started.station last → IsEndOf model last end → IsDueWithEnd None meant end due
    → IsCoopFinished model words (record { source = source; sink = sink }) host finish
coop_finished model words source sink host meant ends due written finish started last end same some none start origin left is =
    let edges : Edges = record { source = source; sink = sink } in
    let chosen = started.chosen in
    let chose = same_choice words chosen start.chose in
    let first = start.prepared.start in
    let over = (is_run_of model chosen.rules host started.station last end origin left start.prepared.bytes first).1 in
    let attempts = start.bounds.rules.attempts.0 in
    let tries = start.bounds.rules.undo_tries.0 in
    subst (IsCoopFinished model words edges host)
    (λ i. record { status = sym same i; end = sym some i; host = sym none i })
    (record {
      answered = answered_by_run model edges meant ends due written (coop_choice_of words) (coop_choice_in chosen) coop_usage_line host end chose is over;
      run = is_run model (coop_choice_of words) (coop_choice_in chosen) source host started.station last end chose start.prepared origin left;
      complete = full_as_said model edges meant ends due written chosen.rules host end None attempts tries is over;
      host = tt;
      one = tt;
    })
