-- What a run's status means, and what is written with it.
use Rattle.std.specs.Prelude.{◌≡◌, ℕ, ◌⊎◌, Bool, true, false, nat_lt, List, sum_by}
use Rattle.std.specs.Prelude.{IsSome, Option}
use Rattle.std.specs.declared.option.Option.TheVariants.{None, Some}
use Rattle.std.specs.List.{list_any}
use Rattle.xc_data.specs.declared.entry.JobEnd.{JobEnd}
use Rattle.xc_data.specs.declared.entry.JobEnd.TheVariants as job_end
use Rattle.xc_data.specs.declared.entry.JobLine.{JobLine}
use Rattle.xc_data.specs.Faults.{entry_faults}
use Rattle.xc_data.specs.Step.{Step}
use Rattle.xc_edge.specs.Streams.{AppendsPart, AppendsWhole}
use Rattle.xc_edge.specs.View.{StreamView, HasFailed}
use Rattle.xc_model.specs.Ending.{IsComplete}
use Rattle.xc_print.specs.Totals.{totals_of}
use Rattle.xc_serial.specs.Plain.{plain_text}
use Rattle.xc_serial.specs.Undisturbed.{all_alone, is_full}
use Rattle.xc_station.specs.declared.run_result.End.{End}
use Rattle.xc_tokens.specs.declared.why.Why.{Why}
use Rattle.xc_outcome.specs.declared.choice.Choice.{Choice}
use Rattle.xc_outcome.specs.declared.finish.Finish.{Finish}
use Rattle.xc_outcome.specs.declared.finish.Status.{Status}
use Rattle.xc_outcome.specs.declared.finish.Status.TheVariants as status
use Rattle.xc_outcome.specs.Lines.{read_fault_line, no_memory_line, not_scripted_line, refused_line}
use Rattle.xc_outcome.specs.Runs.{AreScript, IsRefusal, IsUnscripted, chosen_seed, end_text, input_of, lines_but_kept, starves, written_of}

-- ---- what became of the jobs and of their effects
-- a job gave up, or found the journal full
abbrev pub is_given_up : JobEnd → Bool
is_given_up (job_end.GaveUp c) = true
is_given_up job_end.JournalFull = true
is_given_up _ = false

-- the line of such a job
abbrev pub gives_up : JobLine → Bool
gives_up line = is_given_up line.end

-- some job did
abbrev pub gave_up : {H : Type 0} → End H → Bool
gave_up end = list_any gives_up end.jobs

-- some effect of an aborted transaction remains: the last line of the text counts them
abbrev pub leaves_effects : {H : Type 0} → End H → Bool
leaves_effects end = nat_lt 0 (totals_of end.journal.items).remains

-- a run that is done has its end, and each transaction of each started job has the one entry by which it was done with; so it is
-- where effects are left, unless a job gave up
abbrev pub IsDoneWith : {H : Type 0} → Status → Option (End H) → Type 0
IsDoneWith status.Done None = ⊥
IsDoneWith status.Done (Some end) = IsComplete end.opening.script end.journal.items
IsDoneWith status.Left None = ⊥
IsDoneWith status.Left (Some end) = gave_up end ≡ false → IsComplete end.opening.script end.journal.items
IsDoneWith _ end = Unit {0}

-- ---- the status that is meant
-- done, with effects that are left, with a job that gave up, or without memory
abbrev pub IsDone : Status → Type 0
IsDone status.Done = Unit {0}
IsDone status.Left = Unit {0}
IsDone status.GaveUp = Unit {0}
IsDone status.NoMemory = Unit {0}
IsDone _ = ⊥

-- the words are refused, but for lack of memory
abbrev pub IsUsage : Status → Type 0
IsUsage status.Usage = Unit {0}
IsUsage status.NoMemory = Unit {0}
IsUsage _ = ⊥

-- a status has its cause: in the choice, in the host, and in the source before and after it was read. Refused words make no choice
pub record IsCaused (choice : Option Choice) (takes_scripts : Bool) (source : Step StreamView) (meant : Status) : Type 0 where
  pub usage : meant ≡ status.Usage → choice ≡ None
  pub refused_words : choice ≡ None → IsUsage meant
  pub refused : (line : ℕ) (why : Why) → meant ≡ status.Refused line why → IsRefusal (chosen_seed choice) source line why
  pub unscripted : meant ≡ status.NotScripted → IsUnscripted takes_scripts (chosen_seed choice) source
  pub read_fault : meant ≡ status.ReadFault → HasFailed source.old source.new
  -- with a choice, no failed read and a script that the host follows the run is done, but for lack of memory
  pub complete : IsSome choice → (HasFailed source.old source.new → ⊥)
      → AreScript takes_scripts (input_of (chosen_seed choice) source.old.bytes) → IsDone meant

-- ---- what is written
-- what is due with a status and an end
abbrev pub IsDueWithEnd : {H : Type 0} → Option ℕ → Status → End H → List ℕ → Type 0
IsDueWithEnd seed status.Done end due = (due ≡ written_of seed end) × (starves end ≡ false) × (leaves_effects end ≡ false)
    × (gave_up end ≡ false)
IsDueWithEnd seed status.Left end due = (due ≡ written_of seed end) × (starves end ≡ false) × (leaves_effects end ≡ true)
IsDueWithEnd seed status.GaveUp end due = (due ≡ written_of seed end) × (starves end ≡ false) × (leaves_effects end ≡ false)
    × (gave_up end ≡ true)
IsDueWithEnd seed status.NoMemory end due = (due ≡ no_memory_line) ⊎ ((due ≡ written_of seed end) × (starves end ≡ true))
IsDueWithEnd seed _ end due = ⊥

-- what is due with a status and no end, where this is the usage line
abbrev pub IsDueAlone : List ℕ → Status → List ℕ → Type 0
IsDueAlone usage status.Usage due = due ≡ usage
IsDueAlone usage (status.Refused line why) due = due ≡ refused_line line why
IsDueAlone usage status.ReadFault due = due ≡ read_fault_line
IsDueAlone usage status.NoMemory due = due ≡ no_memory_line
IsDueAlone usage status.NotScripted due = due ≡ not_scripted_line
IsDueAlone usage _ due = ⊥

-- the same whatever the usage line is
abbrev pub IsDueAnyway : Status → List ℕ → Type 0
IsDueAnyway meant due = (usage : List ℕ) → IsDueAlone usage meant due

-- what is due with a status
abbrev pub IsDue : {H : Type 0} → List ℕ → Option ℕ → Status → Option (End H) → List ℕ → Type 0
IsDue usage seed meant None due = IsDueAlone usage meant due
IsDue usage seed meant (Some end) due = IsDueWithEnd seed meant end due

-- all was written, and the run ends with the status that was meant; or a front, and it ends with the sink's failure
abbrev pub IsWritten : Status → Status → List ℕ → StreamView → StreamView → Type 0
IsWritten meant ends due old new =
    ((ends ≡ meant) × AppendsWhole old new due) ⊎ ((ends ≡ status.WriteFault) × AppendsPart old new due × HasFailed old new)

-- what is due with an end was written with the status that was meant, or a front of it
abbrev pub IsEndSaid : {H : Type 0} → Option ℕ → End H → Status → Step StreamView → Type 0
IsEndSaid seed end ends sink =
    (meant : Status) × (due : List ℕ) × IsDueWithEnd seed meant end due × IsWritten meant ends due sink.old sink.new

-- what is due with this status was written, or a front of it
abbrev pub IsDueSaid : {H : Type 0} → List ℕ → Option ℕ → Status → Finish H → Step StreamView → Type 0
IsDueSaid usage seed meant finish sink =
    (due : List ℕ) × IsDue usage seed meant finish.end due × IsWritten meant finish.status due sink.old sink.new

-- a source and a sink, before and after
pub record Edges : Type 0 where
  pub source : Step StreamView
  pub sink : Step StreamView

-- a status was meant, and it has its cause: so the run is done, and what is due is written
abbrev pub IsAnswered : {H : Type 0} → Option Choice → List ℕ → Bool → Edges → Finish H → Type 0
IsAnswered choice usage takes_scripts edges finish =
    (meant : Status) × IsCaused choice takes_scripts edges.source meant × IsDoneWith meant finish.end
    × IsDueSaid usage (chosen_seed choice) meant finish edges.sink

-- without the words of the command line: the line of status 2 or of status 5 is written, or a front of it
abbrev pub IsWordless : List ℕ → Status → Step StreamView → Type 0
IsWordless usage ends sink =
    (meant : Status) × IsUsage meant × (due : List ℕ) × IsDueAlone usage meant due × IsWritten meant ends due sink.old sink.new

-- where no fault is recorded, the run's text was written, and its lines but those on kept data are the text of the script alone
abbrev pub IsSaidPlainly : {H : Type 0} → StreamView → StreamView → End H → Type 0
IsSaidPlainly old new end =
    sum_by entry_faults end.journal.items ≡ 0
    → AppendsWhole old new (end_text end) × (lines_but_kept end ≡ plain_text end.opening.script)

-- ---- a run that nothing disturbed
-- no attempt met another, no fault is recorded, and no job found the journal full
pub record IsUndisturbed {H : Type 0} (end : End H) : Type 0 where
  pub unmet : all_alone end.journal.items ≡ true
  pub faultless : sum_by entry_faults end.journal.items ≡ 0
  pub room : list_any is_full end.jobs ≡ false

-- it was done, and each transaction of each job has the one entry by which it was done with; or memory or the sink was wanting
abbrev pub IsFullRun : {H : Type 0} → Status → End H → Type 0
IsFullRun status.Done end = IsComplete end.opening.script end.journal.items
IsFullRun status.NoMemory end = Unit {0}
IsFullRun status.WriteFault end = Unit {0}
IsFullRun _ end = ⊥

-- the end of a run is there, or the host, and not both
abbrev pub IsOneOf : {A B : Type 0} → Option A → Option B → Type 0
IsOneOf None None = ⊥
IsOneOf None (Some host) = Unit {0}
IsOneOf (Some end) None = Unit {0}
IsOneOf (Some end) (Some host) = ⊥
