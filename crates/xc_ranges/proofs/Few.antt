-- What a short text shows has few items.
use Rattle.std.proofs.Common.{◌≡◌, ℕ, ◌+◌, ◌^◌, ◌<◌, ◌≤◌, List, ◌++◌, length, arith, sym, subst}
use Rattle.std.specs.List.{AllByRecursion}
use Rattle.std.proofs.lemmas.List.{length-append}
use Rattle.std.proofs.lemmas.List.Sums.{count_by-le-length}
use Rattle.xc_data.specs.declared.call.LateEnd.{LateEnd}
use Rattle.xc_data.specs.declared.entry.Entry.{Entry}
use Rattle.xc_data.specs.declared.entry.JobLine.{JobLine}
use Rattle.xc_data.specs.declared.entry.KeptItem.{KeptItem}
use Rattle.xc_data.specs.declared.entry.Outcome.{Outcome}
use Rattle.xc_data.specs.declared.entry.Outcome.TheVariants.{Committed, Aborted}
use Rattle.xc_data.specs.declared.entry.Report.{Report}
use Rattle.xc_lines.specs.Ranges.{IsLateEndInRange}
use Rattle.xc_print.specs.Entries.{journal_text, outcome_lines}
use Rattle.xc_print.specs.Kept.{kept_lines}
use Rattle.xc_print.specs.Records.{remains_lines, undo_lines}
use Rattle.xc_print.specs.Text.{job_lines, rendered, word_lines}
use Rattle.xc_print.specs.Totals.{is_aborted, is_committed, totals_line, totals_of}
use Rattle.xc_sheet.specs.EndRanges.{AreTotalsInRange, IsEntryInRange, IsOutcomeInRange, IsRecordInRange}
use Rattle.xc_ranges.proofs.Lengths.{AreAnswered, job_lengths, journal_faults, journal_lengths, journal_stands}
use Rattle.xc_ranges.proofs.Lengths.{late_lengths, undo_lengths}

-- the late calls of a commit
pub few_lates : (o : Outcome) (late : List LateEnd) → o ≡ Committed late → length (outcome_lines o) ≤ 2 ^ 26 → AllByRecursion IsLateEndInRange late
    → IsOutcomeInRange o
few_lates o late is short all =
    let few : length late < 2 ^ 32 = omega (arith, subst (λ o. length (outcome_lines o) ≤ 2 ^ 26) is short, late_lengths 1 late) in
    subst IsOutcomeInRange (sym is) (few, all)

-- the records of an abort
pub few_records : (o : Outcome) (report : Report) → o ≡ Aborted report → length (outcome_lines o) ≤ 2 ^ 26
    → AllByRecursion IsRecordInRange report.records → IsOutcomeInRange o
few_records o report is short all =
    let few : length report.records < 2 ^ 32 =
    omega (
      arith,
      subst (λ o. length (outcome_lines o) ≤ 2 ^ 26) is short,
      undo_lengths 1 report.records,
      length-append (undo_lines 1 report.records) (remains_lines report.records),
    ) in
    subst IsOutcomeInRange (sym is) (few, all)

-- ---- the text of an end
module _ (journal : List Entry) (jobs : List JobLine) (words : List ℕ) (kept : List KeptItem) where
  -- the entries and the jobs are parts of it
  within : length (journal_text journal) + length (job_lines 1 jobs) ≤ length (rendered journal jobs words kept)
  within =
      let a = journal_text journal in
      let b = job_lines 1 jobs in
      omega (
        arith,
        length-append (a ++ b ++ word_lines 0 words ++ kept_lines kept) (totals_line (totals_of journal)),
        length-append (a ++ b ++ word_lines 0 words) (kept_lines kept),
        length-append (a ++ b) (word_lines 0 words),
        length-append a b,
      )

  pub short_journal : length (rendered journal jobs words kept) ≤ 2 ^ 26 → length (journal_text journal) ≤ 2 ^ 26
  short_journal short = omega (arith, short, within)

  pub few_jobs : length (rendered journal jobs words kept) ≤ 2 ^ 26 → length jobs < 2 ^ 32
  few_jobs short = omega (arith, short, within, job_lengths 1 jobs)

  pub few_totals : length (rendered journal jobs words kept) ≤ 2 ^ 26 → AllByRecursion IsEntryInRange journal → AreAnswered journal
      → AreTotalsInRange (totals_of journal)
  few_totals short all same =
      let few = short_journal short in
      record {
        committed = omega (arith, few, journal_lengths journal, count_by-le-length is_committed journal);
        aborted = omega (arith, few, journal_lengths journal, count_by-le-length is_aborted journal);
        faults = omega (arith, few, journal_faults journal all same);
        remains = omega (arith, few, journal_stands journal);
      }
