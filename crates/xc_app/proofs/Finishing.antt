-- A run that was started, and all of whose jobs have ended, is finished as the top call promises.
use Rattle.std.proofs.Common.{◌≡◌, ◌≢◌, ℕ, true, List, ap, sym, ◌∙◌, subst}
use Rattle.std.specs.Prelude.{IsTrue, Option, is_none, not, ◌==◌, ◌&&◌}
use Rattle.std.specs.declared.option.Option.TheVariants.{None, Some}
use Rattle.std.specs.Option.{option_map}
use Rattle.std.proofs.lemmas.Bool.{and_parts}
use Rattle.xc_data.specs.Step.{Step}
use Rattle.xc_edge.specs.View.{StreamView}
use Rattle.xc_host.specs.Model.{HostModel}
use Rattle.xc_outcome.proofs.Laws.{answered_by_run, full_as_said, is_run_of, is_serial_run, said_plainly}
use Rattle.xc_outcome.specs.declared.finish.Finish.{Finish}
use Rattle.xc_outcome.specs.declared.finish.Status.{Status}
use Rattle.xc_outcome.specs.declared.finish.Status.TheVariants as status
use Rattle.xc_outcome.specs.Outcomes.{IsEndOf, IsWrittenAs}
use Rattle.xc_outcome.specs.Runs.{IsSerialRun}
use Rattle.xc_outcome.specs.Said.{Edges, IsDueWithEnd}
use Rattle.xc_settings.specs.declared.chosen.Chosen.{Chosen}
use Rattle.xc_settings.specs.Options.{settings_of}
use Rattle.xc_station.specs.declared.run_result.End.{End}
use Rattle.xc_station.specs.Stations.{StationView, KeepsOrigin, RanAlone}
use Rattle.xc_app.specs.declared.start.Started.{Started}
use Rattle.xc_app.specs.Headline.{IsFinished, IsRunOver, IsSaidAlone, RunsAlone, choice_in, choice_of, needs_threads}
use Rattle.xc_app.specs.Lines.{usage_line}
use Rattle.xc_app.specs.Parts.{IsStarted}

-- where several workers take the turns it isn't one that goes job after job
pub threads_not_alone : (chosen : Chosen) → needs_threads chosen ≡ true → RunsAlone chosen → ⊥
threads_not_alone chosen needs alone =
    let last = and_parts (is_none chosen.schedule && is_none chosen.seed) (not (chosen.workers == 1)) needs in
    let no : not (1 == 1) ≡ true = subst (λ n. not (n == 1) ≡ true) alone.workers last.1 in
    cc

-- what words choose makes their choice
pub same_choice : (words : List (List ℕ)) (chosen : Chosen) → settings_of words ≡ Some chosen → choice_of words ≡ Some (choice_in chosen)
same_choice words chosen chose = ap (option_map choice_in) chose

-- words choose one thing
one_choice : (a b : Chosen) (o : Option Chosen) → o ≡ Some a → o ≡ Some b → a ≡ b
one_choice a b o one two = let both : Some a ≡ Some b = sym one ∙ two in cc both

module _ {H : Type 0} (model : HostModel H) (words : List (List ℕ)) (source sink : Step StreamView) (host : H) (meant ends : Status)
    (due : List ℕ) (written : IsWrittenAs meant due ends sink) where
  -- what it says is the text of the script alone, where jobs ran one after another
  said_alone : (chosen : Chosen) (end : End H) → settings_of words ≡ Some chosen → IsDueWithEnd chosen.seed meant end due
      → (RunsAlone chosen → IsSerialRun model end) → IsTrue model.tells → ends ≢ status.NoMemory → ends ≢ status.WriteFault
      → IsSaidAlone words sink.old sink.new end
  said_alone chosen end chose is ran tells fed unfailed = λ again chose_again alone.
      let same : again ≡ chosen = one_choice again chosen (settings_of words) chose_again chose in
      let by : RunsAlone chosen = subst RunsAlone same alone in
      said_plainly model meant ends end due sink.old sink.new written (subst (λ (seed : Option ℕ). IsDueWithEnd seed meant end due) by.seed is)
      (ran by) tells fed unfailed

  -- where all jobs of the run that was started have ended
  pub finished : (finish : Finish H) (started : Started H) (last : StationView H) (end : End H) → finish.status ≡ ends
      → finish.end ≡ Some end → finish.host ≡ None → IsStarted model words source host started → KeepsOrigin started.station last
      → (RunsAlone started.chosen → RanAlone model last) → IsEndOf model last end → IsDueWithEnd started.chosen.seed meant end due
      → IsFinished model words (record { source = source; sink = sink }) host finish
  finished finish started last end same some none start origin ran left is =
      let edges : Edges = record { source = source; sink = sink } in
      let chosen = started.chosen in
      let first = start.prepared.start in
      let attempts = start.bounds.rules.attempts.0 in
      let tries = start.bounds.rules.undo_tries.0 in
      let read_over = is_run_of model chosen.rules host started.station last end origin left start.prepared.bytes first in
      let alone : RunsAlone chosen → IsSerialRun model end = λ one.
      is_serial_run model chosen.rules host started.station last end origin left read_over.1.asked first.ruled attempts tries (ran one) in
      let over : IsRunOver model chosen host end = record { bounds = start.bounds; over = read_over.1; alone = alone } in
      subst (IsFinished model words edges host)
      (λ i. record { status = sym same i; end = sym some i; host = sym none i })
      (record {
        answered = answered_by_run model edges meant ends due written (choice_of words) (choice_in chosen) usage_line host end
            (same_choice words chosen start.chose) is read_over.1;
        run = (chosen, start.chose, start.prepared.bytes, start.prepared.input, (read_over.0, over));
        complete = full_as_said model edges meant ends due written chosen.rules host end chosen.seed attempts tries is read_over.1;
        plain = said_alone chosen end start.chose is alone;
        host = tt;
        one = tt;
      })
