-- The report of an aborted entry, by what is shown of its records.
use Rattle.std.proofs.Common.{◌≡◌, ℕ, Bool, true, false, List, length, map, refl, sym, ◌∙◌, subst}
use Rattle.std.specs.Prelude.{MatchBool}
use Rattle.xc_data.specs.declared.entry.Cause.{Cause}
use Rattle.xc_data.specs.declared.entry.Entry.{Entry}
use Rattle.xc_data.specs.declared.entry.Report.{Report}
use Rattle.xc_data.specs.declared.undo.Undo.{Undo}
use Rattle.xc_data.specs.declared.undo.UndoEnd.{UndoEnd}
use Rattle.xc_lines.specs.declared.shown.EffectShown.{EffectShown}
use Rattle.xc_lines.specs.declared.shown.UndoKind.{UndoKind}
use Rattle.xc_script.specs.declared.ask.Ask.{Ask}
use Rattle.xc_shown.specs.Shown.{effects_shown, record_shown}
use Rattle.xc_shown.specs.declared.shown.Shown.{Shown}
use Rattle.xc_world.specs.Ends.{Ending}
use Rattle.xc_world.specs.Run.{BodyResult}
use Rattle.xc_judge.specs.declared.basis.Basis.{Basis}
use Rattle.xc_model.specs.Course.{Course}
use Rattle.xc_world.specs.RecordOf.{AreRecordsOf}
use Rattle.xc_model.specs.EntryEnds.{AreRecords}
use Rattle.xc_model.specs.Machine.{HasReplies, HasReport}
use Rattle.xc_model.specs.Progress.{body_of, private_of}
use Rattle.xc_model.specs.Recorded.{Recorded, all_records, no_records}
use Rattle.xc_judge.specs.Counts.{IsCountedReport}
use Rattle.xc_judge.specs.Judged.{telling_terms}
use Rattle.xc_judge.specs.Traced.{AreAllAlike, AreNotTraced, AreShown, AreTraced, IsShownSo, ReportShown, ends_of, report_shown, shown_ends, undos_of}
use Rattle.xc_judge.proofs.Cases.{tested_false, tested_true}
use Rattle.xc_judge.proofs.Committing.{replayed_from}
use Rattle.xc_judge.proofs.Counting.{report_counted, report_so}
use Rattle.xc_judge.proofs.Rerun.{body_of_calls}

-- ---- what the code has of what is shown
-- what is shown of a report, by its parts
abbrev kinds_and_effects : Cause → List (UndoKind × UndoEnd) → List EffectShown → ReportShown
kinds_and_effects why kinds effects = record { cause = why; records = kinds; effects = effects }

module _ (b : BodyResult) (tx : ℕ) (last : Ask) (why : Cause) (shown : Shown) (kinds : List (UndoKind × UndoEnd)) (effects : List EffectShown) where
  -- it found records that are true
  pub traced_there : (test : Bool) (us : List Undo) → kinds ≡ shown.records → effects ≡ shown.effects → test ≡ true
      → MatchBool test (AreTraced b tx last (kinds_and_effects why kinds effects) us)
      (AreNotTraced b tx last (kinds_and_effects why kinds effects)) → AreTraced b tx last (report_shown why shown) us
  traced_there test us p q is so =
      let seen : kinds_and_effects why kinds effects ≡ report_shown why shown = λ i. record { cause = why; records = p i; effects = q i } in
      subst (λ s. AreTraced b tx last s us) seen (tested_true test _ _ is so)

  -- it found none
  pub not_traced_there : (test : Bool) (us : List Undo) → kinds ≡ shown.records → effects ≡ shown.effects → test ≡ false
      → MatchBool test (AreTraced b tx last (kinds_and_effects why kinds effects) us)
      (AreNotTraced b tx last (kinds_and_effects why kinds effects)) → AreNotTraced b tx last (report_shown why shown)
  not_traced_there test us p q is so =
      let seen : kinds_and_effects why kinds effects ≡ report_shown why shown = λ i. record { cause = why; records = p i; effects = q i } in
      subst (λ s. AreNotTraced b tx last s) seen (tested_false test _ _ is so)

-- ---- its report
module _ (basis : Basis) (c : Course) (last : Ask) (e : Entry) (seen : ReportShown) where
  -- the records that its calls left
  abbrev left : Recorded
  left = all_records no_records e.calls e.replies

  -- a report of such records has as many
  counted : (report : Report) → IsShownSo seen report → HasReport (telling_terms basis) c last e report
      → IsCountedReport basis.rules.undo_tries (length left.now) (record { cause = seen.cause; records = report.records })
  counted report so has = subst (λ y. IsCountedReport basis.rules.undo_tries (length left.now) (record { cause = y; records = report.records })) so.cause
      (report_counted basis.rules.undo_tries left report has.counted)

  -- the records of its body, with the replies that it tells, are those of its calls
  of_calls : HasReplies (telling_terms basis) c e → AreRecordsOf left.now (body_of c.state e).trail
  of_calls has = body_of_calls c.state.world (private_of c.state e.job) e.tx e.calls e.replies (replayed_from c.state e (has.played refl))

  -- its records are true
  traced : (report : Report) → IsShownSo seen report → HasReport (telling_terms basis) c last e report
      → AreRecords (body_of c.state e) e.tx last seen.cause (undos_of report.records)
  traced report so has = subst (λ y. AreRecords (body_of c.state e) e.tx last y (undos_of report.records)) so.cause (has.played refl)

  -- and shown so
  there : (report : Report) → IsShownSo seen report → HasReport (telling_terms basis) c last e report → AreShown seen report.records
  there report so has = record { tries = basis.rules.undo_tries; legal = has.counted.legal; kinds = so.kinds; effects = so.effects }

  -- no true records are shown so
  pub not_traced : AreNotTraced (body_of c.state e) e.tx last seen → (report : Report) → IsShownSo seen report
      → HasReport (telling_terms basis) c last e report → ⊥
  not_traced none report so has = none report.records (traced report so has) (there report so has)

  module _ (us : List Undo) (trail : AreTraced (body_of c.state e) e.tx last seen us) (records : List Ending) (undos : undos_of records ≡ us)
      (ends : ends_of records ≡ shown_ends seen.records) where
    -- those of a true report that is shown so are like these
    like : (report : Report) → IsShownSo seen report → HasReport (telling_terms basis) c last e report → AreAllAlike seen.cause report.records records
    like report so has = trail.alike report.records (traced report so has) (there report so has) records undos ends

    -- they are of other kinds
    pub not_kinds : (map record_shown records ≡ seen.records → ⊥) → (report : Report) → IsShownSo seen report
        → HasReport (telling_terms basis) c last e report → ⊥
    not_kinds none report so has = none (sym (like report so has).kinds ∙ so.kinds)

    -- other effects stand
    pub not_effects : (effects_shown records ≡ seen.effects → ⊥) → (report : Report) → IsShownSo seen report
        → HasReport (telling_terms basis) c last e report → ⊥
    not_effects none report so has = none (sym (like report so has).effects ∙ so.effects)

    -- no report has them
    pub not_reported : (k : ℕ) (cause : Cause) → k ≡ length left.now → cause ≡ seen.cause
        → (IsCountedReport basis.rules.undo_tries k (record { cause = cause; records = records }) → ⊥) → (report : Report) → IsShownSo seen report
        → HasReport (telling_terms basis) c last e report → ⊥
    not_reported k cause count same none report so has =
        none (subst (λ y. IsCountedReport basis.rules.undo_tries k (record { cause = y; records = records })) (sym same)
        (subst (λ n. IsCountedReport basis.rules.undo_tries n (record { cause = seen.cause; records = records })) (sym count)
        ((like report so has).reports basis.rules.undo_tries (length left.now) (counted report so has))))

    -- a report has them
    pub reported : HasReplies (telling_terms basis) c e → (k : ℕ) (cause : Cause) → k ≡ length left.now → cause ≡ seen.cause
        → map record_shown records ≡ seen.records → effects_shown records ≡ seen.effects
        → IsCountedReport basis.rules.undo_tries k (record { cause = cause; records = records })
        → IsShownSo seen (record { cause = cause; records = records })
        × HasReport (telling_terms basis) c last e (record { cause = cause; records = records })
    reported replies k cause count same kinds effects report =
        let true_so : AreRecords (body_of c.state e) e.tx last cause (undos_of records) =
        subst (λ y. AreRecords (body_of c.state e) e.tx last y (undos_of records)) (sym same)
        (subst (AreRecords (body_of c.state e) e.tx last seen.cause) (sym undos) trail.records) in (
          record { cause = same; kinds = kinds; effects = effects },
          record {
            counted = report_so basis.rules.undo_tries left (body_of c.state e) e.tx last (record { cause = cause; records = records }) (of_calls replies)
                true_so (subst (λ n. IsCountedReport basis.rules.undo_tries n (record { cause = cause; records = records })) count report);
            played = λ _. true_so;
          },
        )
