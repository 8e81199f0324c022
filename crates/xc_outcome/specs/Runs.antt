-- What was run, and what its end is, in the words of the plain machine alone and whatever took the turns.
use Rattle.std.specs.Prelude.{◌≡◌, ℕ, ◌&&◌, Bool, true, false, not, List, [], take, sum_by}
use Rattle.std.specs.Prelude.{IsTrue, Option, Ok, Err}
use Rattle.std.specs.declared.option.Option.TheVariants.{None, Some}
use Rattle.std.specs.Option.{option_and_then, option_map}
use Rattle.xc_buffers.specs.Items.{AreKept}
use Rattle.xc_data.specs.Counts.{RisesBy}
use Rattle.xc_data.specs.Faults.{entry_faults}
use Rattle.xc_data.specs.Step.{Step}
use Rattle.xc_edge.specs.Streams.{Came}
use Rattle.xc_edge.specs.View.{StreamView}
use Rattle.xc_generator.specs.Generated.{generated}
use Rattle.xc_generator.specs.Summary.{summary_of}
use Rattle.xc_host.specs.Contents.{Contents, needs_scripted}
use Rattle.xc_host.specs.Kept.{with_kept}
use Rattle.xc_host.specs.Model.{HostModel, plan_of}
use Rattle.xc_model.specs.Live.{IsScripted}
use Rattle.xc_model.specs.Accounted.{AreAccounted}
use Rattle.xc_model.specs.Ending.{Final, IsTrueEnd, StopWhereFull, wanted_memory}
use Rattle.xc_model.specs.Handles.{AreCalled}
use Rattle.xc_model.specs.Serial.{IsSerial}
use Rattle.xc_model.specs.Setting.{setting}
use Rattle.xc_model.specs.declared.rules.Rules.{Rules}
use Rattle.xc_print.specs.Text.{rendered}
use Rattle.xc_serial.specs.Plain.{plain_text}
use Rattle.xc_station.specs.declared.run_result.End.{End}
use Rattle.xc_text.specs.Scripts.{parse_of}
use Rattle.xc_text.specs.declared.script.Script.{Script}
use Rattle.xc_tokens.specs.declared.why.Why.{Why}
use Rattle.xc_outcome.specs.declared.choice.Choice.{Choice}

-- ---- what was chosen
-- the seed of a choice, if one was made and has one
abbrev pub chosen_seed : Option Choice → Option ℕ
chosen_seed choice = option_and_then (λ (chosen : Choice). chosen.seed) choice

-- ---- what was read
-- all bytes of the source came, or so many that they are too long for a script
abbrev pub IsRead : StreamView → StreamView → List ℕ → Type 0
IsRead old new bytes = Came 1048577 old new bytes

-- these bytes are run: with a seed those that are generated, and then nothing is read; otherwise those that are read
abbrev pub IsInput : Option ℕ → Step StreamView → List ℕ → Type 0
IsInput None source bytes = IsRead source.old source.new bytes
IsInput (Some seed) source bytes = (source.new ≡ source.old) × (bytes ≡ generated seed)

-- the bytes are no script, and this is the first bad line with its first reason
abbrev pub IsRefusal : Option ℕ → Step StreamView → ℕ → Why → Type 0
IsRefusal seed source line why = (bytes : List ℕ) × IsInput seed source bytes × (parse_of bytes ≡ Err (line, why))

-- the script has a line that this host can't follow
abbrev pub is_refused_by : Bool → Script → Bool
is_refused_by takes_scripts script = not takes_scripts && needs_scripted script.outline.prologue

-- the bytes are a script with a line that this host can't follow
abbrev pub IsUnscripted : Bool → Option ℕ → Step StreamView → Type 0
IsUnscripted takes_scripts seed source =
    (bytes : List ℕ) × (script : Script) × IsInput seed source bytes × (parse_of bytes ≡ Ok script)
    × (is_refused_by takes_scripts script ≡ true)

-- the bytes that are run, if they are known beforehand: of the told ones those that are read
abbrev pub input_of : Option ℕ → Option (List ℕ) → Option (List ℕ)
input_of None told = option_map (take 1048577) told
input_of (Some seed) told = Some (generated seed)

-- they are known, and are a script that this host follows
abbrev pub AreScript : Bool → Option (List ℕ) → Type 0
AreScript takes_scripts None = ⊥
AreScript takes_scripts (Some bytes) =
    (script : Script) × (parse_of bytes ≡ Ok script) × (is_refused_by takes_scripts script ≡ false)

-- ---- the run
-- some job ended for lack of memory, or some late call did
abbrev pub starves : {H : Type 0} → End H → Bool
starves end = wanted_memory end.jobs end.journal.items

-- the text of a run's end
abbrev pub end_text : {H : Type 0} → End H → List ℕ
end_text end = rendered end.journal.items end.jobs end.words end.kept

-- what is written of it: the text, or with a seed the line that sums it up
abbrev pub written_of : {H : Type 0} → Option ℕ → End H → List ℕ
written_of None end = end_text end
written_of (Some seed) end = summary_of end.journal.items end.words seed

-- its lines but those on kept data: the text as it were if nothing was kept
abbrev pub lines_but_kept : {H : Type 0} → End H → List ℕ
lines_but_kept end = rendered end.journal.items end.jobs end.words []

module _ {H : Type 0} (model : HostModel H) where
  -- what the host holds, with the kept data in front of what its pipes and pairs hold
  abbrev pub logical_contents : End H → Contents
  logical_contents end = with_kept (model.contents end.host) end.kept

  -- what a run leaves beside its journal
  abbrev pub final_of : End H → Final
  final_of end = record { words = end.words; contents = logical_contents end; lines = end.jobs }

  -- the end of a run by these rules, over the host that was handed in
  pub record IsEndOver (rules : Rules) (host : H) (end : End H) : Type 0 where
    pub scripted : is_refused_by model.takes_scripts end.opening.script ≡ false
    pub faults : end.opening.faults ≡ model.fault_count host
    -- its blocks ask its transactions, and no client
    pub asked : IsScripted end.opening.script
    -- the end has all of the journal: nothing of it was handed out before
    pub unparted : end.journal.gone ≡ 0
    -- the journal is true of the script, and leads to the words, to the host's contents with the kept data in front, and to the jobs' ends
    pub whole : IsTrueEnd (setting end.opening.script rules model.tells) end.journal.items (final_of end)
    -- what is kept stands in order: pipes by number, then pairs by number and side; no item is empty but a message
    pub kept : AreKept end.kept
    -- each transaction committed, but where there was a cause for its abort
    pub accounted : AreAccounted (setting end.opening.script rules model.tells) end.journal.items
    -- the host's count rose by the recorded faults, and stayed where none is recorded
    pub counted : RisesBy (sum_by entry_faults end.journal.items) (model.fault_count host) (model.fault_count end.host)
    -- since its opening the host was called by the entries, as often as they say, and by nothing else
    pub called : AreCalled end.opening.script end.journal.items (model.calls end.host)
    -- the host was opened with the script's own fault lines and grain
    pub plan : model.plan end.host ≡ plan_of end.opening.script.outline.prologue

  -- the end of a run whose jobs ran one after another
  pub record IsSerialRun (end : End H) : Type 0 where
    -- so did its transactions
    pub serial : IsSerial end.journal.items
    -- and none is of a job after one that found the journal full
    pub stops : StopWhereFull end.jobs end.journal.items
    -- so, where the host tells, no fault is recorded and nothing wanted memory, all lines but those on kept data are the script's alone
    pub plain : IsTrue model.tells → sum_by entry_faults end.journal.items ≡ 0 → starves end ≡ false
        → lines_but_kept end ≡ plain_text end.opening.script

  -- the bytes are a script, and this is the end of its run
  abbrev pub IsRunOf : List ℕ → Rules → H → End H → Type 0
  IsRunOf bytes rules host end = (parse_of bytes ≡ Ok end.opening.script) × IsEndOver rules host end

  -- a choice was made, bytes were read from the source or generated, and this is the end of their run
  abbrev pub IsRun : Option Choice → Step StreamView → H → End H → Type 0
  IsRun choice source host end =
      (chosen : Choice) × (choice ≡ Some chosen) × (bytes : List ℕ) × IsInput chosen.seed source bytes
      × IsRunOf bytes chosen.rules host end
