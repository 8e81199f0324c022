-- The records of an aborted entry, by what a text shows of them.
use Rattle.std.specs.Prelude.{◌≡◌, ℕ, List, length, map}
use Rattle.xc_data.specs.declared.entry.Cause.{Cause}
use Rattle.xc_data.specs.declared.entry.Report.{Report}
use Rattle.xc_data.specs.declared.undo.Undo.{Undo}
use Rattle.xc_data.specs.declared.undo.UndoEnd.{UndoEnd}
use Rattle.xc_lines.specs.declared.shown.EffectShown.{EffectShown}
use Rattle.xc_lines.specs.declared.shown.UndoKind.{UndoKind}
use Rattle.xc_script.specs.declared.ask.Ask.{Ask}
use Rattle.xc_shown.specs.Shown.{effects_shown, record_shown}
use Rattle.xc_shown.specs.declared.shown.Shown.{Shown}
use Rattle.xc_world.specs.Ends.{AreLegal, Ending}
use Rattle.xc_world.specs.Run.{BodyResult}
use Rattle.xc_model.specs.EntryEnds.{AreRecords}
use Rattle.xc_judge.specs.Counts.{IsCountedReport}

-- what a text shows of a report: its cause, the kinds of its records with their ends, and the effects that stand
pub record ReportShown : Type 0 where
  pub cause : Cause
  pub records : List (UndoKind × UndoEnd)
  pub effects : List EffectShown

-- what an entry's text shows of its report, which has this cause
abbrev pub report_shown : Cause → Shown → ReportShown
report_shown why shown = record { cause = why; records = shown.records; effects = shown.effects }

-- a report is shown so
pub record IsShownSo (seen : ReportShown) (report : Report) : Type 0 where
  pub cause : report.cause ≡ seen.cause
  pub kinds : map record_shown report.records ≡ seen.records
  pub effects : effects_shown report.records ≡ seen.effects

-- ---- records with their ends
-- the records alone
abbrev pub undos_of : List Ending → List Undo
undos_of records = map (λ (r : Ending). r.0) records

-- their ends alone
abbrev pub ends_of : List Ending → List UndoEnd
ends_of records = map (λ (r : Ending). r.1) records

-- the ends that are shown
abbrev pub shown_ends : List (UndoKind × UndoEnd) → List UndoEnd
shown_ends shown = map (λ (s : UndoKind × UndoEnd). s.1) shown

-- records may have ended so, and are shown so
pub record AreShown (seen : ReportShown) (records : List Ending) : Type 0 where
  pub tries : ℕ
  pub legal : AreLegal tries 1 records
  pub kinds : map record_shown records ≡ seen.records
  pub effects : effects_shown records ≡ seen.effects

-- as a text shows them these are alike, and a report for this cause may have the others if it may have some
pub record AreAllAlike (why : Cause) (records others : List Ending) : Type 0 where
  pub kinds : map record_shown records ≡ map record_shown others
  pub effects : effects_shown records ≡ effects_shown others
  pub reports : (tries count : ℕ) → IsCountedReport tries count (record { cause = why; records = records })
      → IsCountedReport tries count (record { cause = why; records = others })

-- ---- what a body left
-- these are true records, as many as are shown; and all that are true and shown so are like these with the ends that are shown
pub record AreTraced (b : BodyResult) (tx : ℕ) (last : Ask) (seen : ReportShown) (us : List Undo) : Type 0 where
  pub count : length us ≡ length seen.records
  pub records : AreRecords b tx last seen.cause us
  pub alike : (records : List Ending) → AreRecords b tx last seen.cause (undos_of records) → AreShown seen records
      → (others : List Ending) → undos_of others ≡ us → ends_of others ≡ shown_ends seen.records → AreAllAlike seen.cause records others

-- no true records are shown so
abbrev pub AreNotTraced : BodyResult → ℕ → Ask → ReportShown → Type 0
AreNotTraced b tx last seen = (records : List Ending) → AreRecords b tx last seen.cause (undos_of records) → AreShown seen records → ⊥
