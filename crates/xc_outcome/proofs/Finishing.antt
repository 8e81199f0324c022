-- A run that was prepared, and all of whose jobs have ended, has the end and the answer that are promised, whatever took its turns.
use Rattle.std.proofs.Common.{◌≡◌, ℕ, ◌≤◌, true, false, List, [], ◌∷◌, refl, ap, sym, ◌∙◌, subst, inl, inr}
use Rattle.std.specs.Prelude.{Option, Ok, nat_lt, sum_by, ◌||◌}
use Rattle.std.specs.declared.option.Option.TheVariants.{None, Some}
use Rattle.std.specs.List.{list_any}
use Rattle.std.proofs.lemmas.Bool.{and_parts}
use Rattle.xc_data.specs.Counts.{RisesBy}
use Rattle.xc_data.specs.Faults.{entry_faults}
use Rattle.xc_data.specs.Step.{Step}
use Rattle.xc_data.specs.declared.entry.JobEnd.{JobEnd}
use Rattle.xc_data.specs.declared.entry.JobEnd.TheVariants as job_end
use Rattle.xc_data.specs.declared.entry.JobLine.{JobLine}
use Rattle.xc_edge.specs.View.{StreamView}
use Rattle.xc_host.specs.Model.{HostModel}
use Rattle.xc_model.specs.Ending.{IsTrueEnd, StopWhereFull, all_done, is_done_end}
use Rattle.xc_model.specs.Handles.{AreCalled}
use Rattle.xc_model.specs.Progress.{opening_progress}
use Rattle.xc_model.specs.Serial.{IsSerial}
use Rattle.xc_model.specs.Live.{IsScripted}
use Rattle.xc_model.specs.Setting.{Setting, setting}
use Rattle.xc_text.proofs.Laws.{parsed_blocks}
use Rattle.xc_model.specs.declared.rules.Rules.{Rules}
use Rattle.xc_serial.proofs.Laws.{all_are_done, plain_end, nothing_remains}
use Rattle.xc_station.specs.declared.run_result.End.{End}
use Rattle.xc_station.specs.declared.run_result.Opening.{Opening}
use Rattle.xc_station.specs.Stations.{StationView, KeepsOrigin, RanAlone}
use Rattle.xc_turns.proofs.Laws.{journal_accounts, alone_stops, joint_of_parts}
use Rattle.xc_outcome.specs.declared.choice.Choice.{Choice}
use Rattle.xc_outcome.specs.declared.finish.Status.{Status}
use Rattle.xc_outcome.specs.declared.finish.Status.TheVariants as status
use Rattle.xc_outcome.specs.Outcomes.{IsEndOf, IsPrepared, IsStartOf, IsWrittenAs}
use Rattle.xc_outcome.specs.Runs.{IsEndOver, IsRun, IsRunOf, IsSerialRun, chosen_seed, final_of, is_refused_by}
use Rattle.xc_outcome.specs.Said.{Edges, IsAnswered, IsDone, IsDueWithEnd, IsFullRun, IsUndisturbed, gives_up, is_given_up}
use Rattle.xc_outcome.proofs.Completeness.{caused_by_run, done_with}

-- ---- a station that was started
-- the blocks of its script ask its transactions
pub starts_scripted : {H : Type 0} (model : HostModel H) (bytes : List ℕ) (rules : Rules) (host : H) (station : StationView H)
    → IsStartOf model bytes rules host station → IsScripted station.opening.script
starts_scripted model bytes rules host station start = parsed_blocks bytes station.opening.script start.read

-- ---- the end of a run
module _ {H : Type 0} (model : HostModel H) (rules : Rules) (host : H) (first last : StationView H) (end : End H)
    (origin : KeepsOrigin first last) (left : IsEndOf model last end) where
  -- it was opened as the station was that was started
  same_opening : end.opening ≡ first.opening
  same_opening = left.opening ∙ origin.opening

  -- its journal is judged by the script and the rules of the start
  same_setting : (ruled : first.rules ≡ rules)
      → setting last.opening.script last.rules model.tells ≡ setting end.opening.script rules model.tells
  same_setting ruled = λ i. setting (sym left.opening i).script ((origin.rules ∙ ruled) i) model.tells

  -- and so is the whole end
  whole_by : (ruled : first.rules ≡ rules)
      → IsTrueEnd (setting end.opening.script rules model.tells) end.journal.items (final_of model end)
  whole_by ruled = subst (λ (by : Setting). IsTrueEnd by end.journal.items (final_of model end)) (same_setting ruled) left.whole

  -- it is the end of a run of the bytes that were started
  pub is_run_of : (bytes : List ℕ) → IsStartOf model bytes rules host first → IsRunOf model bytes rules host end
  is_run_of bytes start =
      let same = same_opening in
      let own : IsScripted first.opening.script = starts_scripted model bytes rules host first start in
      let mine : IsScripted end.opening.script = subst (λ (o : Opening). IsScripted o.script) (sym same) own in
      let whole = whole_by start.ruled in
      let faults : last.opening.faults ≡ model.fault_count host =
      ap (λ (o : Opening). o.faults) origin.opening ∙ start.faults in (
        start.read ∙ ap (λ (o : Opening). Ok o.script) (sym same),
        record {
          scripted = ap (λ (o : Opening). is_refused_by model.takes_scripts o.script) same ∙ start.scripted;
          faults = ap (λ (o : Opening). o.faults) same ∙ start.faults;
          asked = mine;
          unparted = left.unparted (subst (λ (o : Opening). IsScripted o.script) (sym origin.opening) own);
          whole = whole;
          kept = left.kept;
          accounted = journal_accounts (setting end.opening.script rules model.tells) end.journal.items mine whole.journal;
          counted = subst (λ n. RisesBy (sum_by entry_faults end.journal.items) n (model.fault_count end.host)) faults left.counted;
          called = subst (λ (o : Opening). AreCalled o.script end.journal.items (model.calls end.host)) (sym left.opening)
              (left.called (subst (λ (o : Opening). IsScripted o.script) (sym origin.opening) own));
          plan = left.plan;
        },
      )

  -- and of one whose jobs ran one after another, where they did
  pub is_serial_run : IsScripted end.opening.script → first.rules ≡ rules → 1 ≤ rules.attempts → 1 ≤ rules.undo_tries → RanAlone model last
      → IsSerialRun model end
  is_serial_run own ruled attempts undo_tries ran =
      let serial : IsSerial end.journal.items = subst IsSerial (sym left.journal) ran.1.serial in
      let stops : StopWhereFull end.jobs end.journal.items =
      subst (StopWhereFull end.jobs) (sym left.journal) (alone_stops _ ran.0 end.jobs ran.1 left.lines) in
      record {
        serial = serial;
        stops = stops;
        plain = λ tells none fed.
            plain_end (setting end.opening.script rules model.tells) end.journal.items (final_of model end) own tells attempts undo_tries
            (whole_by ruled) serial stops none fed;
      }

-- what was prepared by a choice and whose jobs have ended is the end of its run
pub is_run : {H : Type 0} (model : HostModel H) (choice : Option Choice) (chosen : Choice) (source : Step StreamView) (host : H)
    (first last : StationView H) (end : End H) → choice ≡ Some chosen → IsPrepared model chosen source host first → KeepsOrigin first last
    → IsEndOf model last end → IsRun model choice source host end
is_run model choice chosen source host first last end chose prepared origin left = (
  chosen,
  chose,
  prepared.bytes,
  prepared.input,
  is_run_of model chosen.rules host first last end origin left prepared.bytes prepared.start,
)

-- ---- a run that nothing disturbed
-- where each job was done none gave up
none_gave_up : (lines : List JobLine) → all_done lines ≡ true → list_any gives_up lines ≡ false
none_gave_up [] done = refl
none_gave_up (line ∷ lines) done =
    let parts = and_parts (is_done_end line.end) (all_done lines) done in
    ap (λ b. b || list_any gives_up lines) (by_end line.end parts.0) ∙ none_gave_up lines parts.1
  where
    by_end : (d : JobEnd) → is_done_end d ≡ true → is_given_up d ≡ false
    by_end job_end.Done is = refl
    by_end (job_end.GaveUp c) is = cc
    by_end job_end.JournalFull is = cc
    by_end job_end.NoMemory is = cc

-- its status is that of a run that was done, or memory was wanting
full_as_meant : {H : Type 0} (model : HostModel H) (rules : Rules) (host : H) (end : End H) (seed : Option ℕ) (meant : Status) (due : List ℕ)
    → 1 ≤ rules.attempts → 1 ≤ rules.undo_tries → IsDueWithEnd seed meant end due → IsEndOver model rules host end → IsUndisturbed end
    → IsFullRun meant end
full_as_meant model rules host end seed status.NoMemory due some tries is over calm = tt
full_as_meant model rules host end seed status.Done due some tries is over calm =
    let s = setting end.opening.script rules model.tells in
    over.whole.complete over.asked
    (all_are_done s end.journal.items (final_of model end) over.asked some over.whole calm.unmet calm.room is.1)
full_as_meant model rules host end seed status.Left due some tries is over calm =
    let s = setting end.opening.script rules model.tells in
    let joint = joint_of_parts s end.journal.items over.whole.journal in
    let none = nothing_remains s (opening_progress s.script) joint.lasts end.journal.items tries joint.entries calm.faultless in
    let no : true ≡ false = sym is.2 ∙ ap (nat_lt 0) none in
    cc
full_as_meant model rules host end seed status.GaveUp due some tries is over calm =
    let s = setting end.opening.script rules model.tells in
    let done = all_are_done s end.journal.items (final_of model end) over.asked some over.whole calm.unmet calm.room is.1 in
    let no : true ≡ false = sym is.3 ∙ none_gave_up end.jobs done in
    cc
full_as_meant model rules host end seed (status.Refused line why) due some tries is over calm = absurd is
full_as_meant model rules host end seed status.Usage due some tries is over calm = absurd is
full_as_meant model rules host end seed status.ReadFault due some tries is over calm = absurd is
full_as_meant model rules host end seed status.WriteFault due some tries is over calm = absurd is
full_as_meant model rules host end seed status.NotScripted due some tries is over calm = absurd is

full_as_ended : {H : Type 0} (meant ends : Status) (due : List ℕ) (sink : Step StreamView) (end : End H) → IsWrittenAs meant due ends sink
    → IsFullRun meant end → IsFullRun ends end
full_as_ended meant ends due sink end (inl whole) full = subst (λ (s : Status). IsFullRun s end) (sym whole.0) full
full_as_ended meant ends due sink end (inr part) full = subst (λ (s : Status). IsFullRun s end) (sym part.0) tt

-- ---- all that is promised
due_done : {H : Type 0} (seed : Option ℕ) (meant : Status) (end : End H) (due : List ℕ) → IsDueWithEnd seed meant end due → IsDone meant
due_done seed status.Done end due is = tt
due_done seed status.Left end due is = tt
due_done seed status.GaveUp end due is = tt
due_done seed status.NoMemory end due is = tt
due_done seed (status.Refused line why) end due is = absurd is
due_done seed status.Usage end due is = absurd is
due_done seed status.ReadFault end due is = absurd is
due_done seed status.WriteFault end due is = absurd is
due_done seed status.NotScripted end due is = absurd is

module _ {H : Type 0} (model : HostModel H) (edges : Edges) (meant ends : Status) (due : List ℕ)
    (written : IsWrittenAs meant due ends edges.sink) where
  -- a run with this end is answered
  pub answered_by_run : (choice : Option Choice) (chosen : Choice) (usage : List ℕ) (host : H) (end : End H) → choice ≡ Some chosen
      → IsDueWithEnd chosen.seed meant end due → IsEndOver model chosen.rules host end
      → IsAnswered {H = H} choice usage model.takes_scripts edges (record { status = ends; end = Some end; host = None })
  answered_by_run choice chosen usage host end chose is over =
      let seeded : IsDueWithEnd (chosen_seed choice) meant end due =
      subst (λ (seed : Option ℕ). IsDueWithEnd seed meant end due) (sym (ap chosen_seed chose)) is in (
        meant,
        caused_by_run choice chosen model.takes_scripts edges.source meant chose (due_done chosen.seed meant end due is),
        done_with model chosen.rules host chosen.seed meant end due is over,
        (due, seeded, written),
      )

  -- a run that nothing disturbed was done, or memory or the sink was wanting
  pub full_as_said : (rules : Rules) (host : H) (end : End H) (seed : Option ℕ) → 1 ≤ rules.attempts → 1 ≤ rules.undo_tries
      → IsDueWithEnd seed meant end due → IsEndOver model rules host end → IsUndisturbed end → IsFullRun ends end
  full_as_said rules host end seed some tries is over calm =
      full_as_ended meant ends due edges.sink end written (full_as_meant model rules host end seed meant due some tries is over calm)
