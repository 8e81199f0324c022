-- Each item of a list takes a byte of its text at least.
use Rattle.std.proofs.Common.{◌≡◌, ℕ, ◌+◌, ◌*◌, ◌≤◌, List, [], ◌∷◌, ◌++◌, length, arith}
use Rattle.std.specs.Prelude.{codes, sum_by}
use Rattle.std.specs.List.{AllByRecursion}
use Rattle.std.proofs.lemmas.List.{length-append}
use Rattle.std.proofs.lemmas.List.Sums.{count_by-le-length, sum_by-cons}
use Rattle.xc_data.specs.Faults.{entry_faults, is_fault_end, outcome_faults, reply_faults, undo_faults}
use Rattle.xc_data.specs.declared.call.Call.{Call}
use Rattle.xc_data.specs.declared.call.LateEnd.{LateEnd}
use Rattle.xc_data.specs.declared.call.Reply.{Reply}
use Rattle.xc_data.specs.declared.call.Reply.TheVariants as reply
use Rattle.xc_data.specs.declared.claim.Claim.{Claim}
use Rattle.xc_data.specs.declared.entry.Entry.{Entry}
use Rattle.xc_data.specs.declared.entry.JobLine.{JobLine}
use Rattle.xc_data.specs.declared.entry.Outcome.{Outcome}
use Rattle.xc_data.specs.declared.entry.Outcome.TheVariants.{Committed, Aborted}
use Rattle.xc_data.specs.declared.undo.Undo.{Undo}
use Rattle.xc_data.specs.declared.undo.UndoEnd.{UndoEnd}
use Rattle.xc_data.specs.declared.undo.UndoEnd.TheVariants as undo_end
use Rattle.xc_world.specs.Remains.{effect_remains}
use Rattle.xc_lines.specs.Ranges.{IsReplyInRange}
use Rattle.xc_print.specs.Entries.{attempt_text, call_line, call_lines, entry_text, head_line, journal_text}
use Rattle.xc_print.specs.Entries.{late_line, late_lines, outcome_cause, outcome_lines, outcome_word}
use Rattle.xc_print.specs.Objects.{claim_text, further_claims, held_line}
use Rattle.xc_print.specs.Records.{remains_lines, undo_line, undo_lines}
use Rattle.xc_print.specs.Text.{job_line, job_lines}
use Rattle.xc_print.specs.Totals.{entry_remains, outcome_remains}
use Rattle.xc_sheet.specs.EndRanges.{IsEntryInRange, IsOutcomeInRange, IsRecordInRange}

-- a text that has a byte
abbrev HasByte : List ℕ → Type 0
HasByte [] = ⊥
HasByte (b ∷ bs) = Unit {0}

some : (text : List ℕ) → HasByte text → 1 ≤ length text
some [] h = absurd h
some (b ∷ bs) h = omega arith

-- two parts of a text
both : (m n : ℕ) (a b : List ℕ) → m ≤ length a → n ≤ length b → m + n ≤ length (a ++ b)
both m n a b p q = omega (arith, p, q, length-append a b)

-- ---- the lines of an entry
-- the ends of late calls
pub late_lengths : (n : ℕ) (ends : List LateEnd) → length ends ≤ length (late_lines n ends)
late_lengths n [] = omega arith
late_lengths n (end ∷ ends) =
    omega (arith, both 1 (length ends) (late_line n end) (late_lines (n + 1) ends) (some (late_line n end) tt) (late_lengths (n + 1) ends))

-- the records
pub undo_lengths : (n : ℕ) (records : List (Undo × UndoEnd)) → length records ≤ length (undo_lines n records)
undo_lengths n [] = omega arith
undo_lengths n (ended ∷ records) =
    omega (arith, both (length records) 1 (undo_lines (n + 1) records) (undo_line n ended) (undo_lengths (n + 1) records) (some (undo_line n ended) tt))

-- the claims behind the first
further_lengths : (claims : List Claim) → length claims ≤ length (further_claims claims)
further_lengths [] = omega arith
further_lengths (claim ∷ claims) =
    let front = codes ", " ++ claim_text claim in
    omega (arith, both 1 (length claims) front (further_claims claims) (some front tt) (further_lengths claims))

-- the claims
pub held_lengths : (claims : List Claim) → length claims ≤ length (held_line claims)
held_lengths [] = omega arith
held_lengths (claim ∷ claims) =
    let front = codes "  held " ++ claim_text claim in
    let most = both 1 (length claims) front (further_claims claims) (some front tt) (further_lengths claims) in
    omega (arith, both (1 + length claims) 0 (front ++ further_claims claims) (codes "\n") most (omega arith))

-- the calls, each of which has a reply
pub call_lengths : (calls : List Call) (replies : List Reply) → length replies ≡ length calls → length replies ≤ length (call_lines calls replies)
call_lengths [] [] same = omega arith
call_lengths [] (r ∷ replies) same = absurd (omega (arith, same))
call_lengths (c ∷ calls) [] same = omega arith
call_lengths (c ∷ calls) (r ∷ replies) same =
    let more = call_lengths calls replies (omega (arith, same)) in
    omega (arith, both 1 (length replies) (call_line c r) (call_lines calls replies) (some (call_line c r) tt) more)

-- ---- an entry
module _ (e : Entry) where
  -- its lines in parts
  in_parts : length (entry_text e)
      ≡ length (head_line e) + length (call_lines e.calls e.replies) + length (outcome_lines e.outcome) + length (held_line e.held)
  in_parts =
      omega (
        arith,
        length-append (head_line e ++ call_lines e.calls e.replies ++ outcome_lines e.outcome) (held_line e.held),
        length-append (head_line e ++ call_lines e.calls e.replies) (outcome_lines e.outcome),
        length-append (head_line e) (call_lines e.calls e.replies),
      )

  -- it has a byte
  pub entry_some : 1 ≤ length (entry_text e)
  entry_some =
      omega (
        arith,
        in_parts,
        some (attempt_text e) tt,
        length-append (outcome_word e.outcome) (attempt_text e),
        length-append (outcome_word e.outcome ++ attempt_text e) (outcome_cause e.outcome),
        length-append (outcome_word e.outcome ++ attempt_text e ++ outcome_cause e.outcome) (codes "\n"),
      )

  pub outcome_within : length (outcome_lines e.outcome) ≤ length (entry_text e)
  outcome_within = omega (arith, in_parts)

  pub held_within : length e.held ≤ length (entry_text e)
  held_within = omega (arith, in_parts, held_lengths e.held)

  both_within : length (call_lines e.calls e.replies) + length (outcome_lines e.outcome) ≤ length (entry_text e)
  both_within = omega (arith, in_parts)

-- ---- faults, each of them a number of 32 bits
reply_bound : (r : Reply) → IsReplyInRange r → reply_faults r ≤ 4294967296
reply_bound (reply.Number n) h = omega arith
reply_bound (reply.Got bytes) h = omega arith
reply_bound (reply.Made a) h = omega arith
reply_bound (reply.MadePair a b) h = omega arith
reply_bound (reply.Fault n) h = omega arith
reply_bound (reply.Undone faults) h = omega (arith, h)
reply_bound reply.Done h = omega arith
reply_bound reply.End h = omega arith
reply_bound reply.Empty h = omega arith
reply_bound reply.NoName h = omega arith
reply_bound reply.Exists h = omega arith
reply_bound reply.BadHandle h = omega arith
reply_bound reply.PastEnd h = omega arith
reply_bound reply.TooBig h = omega arith
reply_bound reply.TooMuch h = omega arith
reply_bound reply.BadWord h = omega arith
reply_bound reply.Late h = omega arith

replies_bound : (replies : List Reply) → AllByRecursion IsReplyInRange replies → sum_by reply_faults replies ≤ length replies * 4294967296
replies_bound [] h = omega arith
replies_bound (r ∷ replies) h =
    omega (arith, sum_by-cons reply_faults r replies, reply_bound r h.0, replies_bound replies h.1)

undo_bound : (ended : Undo × UndoEnd) → IsRecordInRange ended → undo_faults ended ≤ 4294967296
undo_bound (undo, undo_end.Undone faults) h = omega (arith, h.1)
undo_bound (undo, undo_end.Failed done faults) h = omega (arith, h.1.1)
undo_bound (undo, undo_end.Blocked by) h = omega arith

records_bound : (records : List (Undo × UndoEnd)) → AllByRecursion IsRecordInRange records → sum_by undo_faults records ≤ length records * 4294967296
records_bound [] h = omega arith
records_bound (ended ∷ records) h =
    omega (arith, sum_by-cons undo_faults ended records, undo_bound ended h.0, records_bound records h.1)

outcome_bound : (o : Outcome) → IsOutcomeInRange o → outcome_faults o ≤ length (outcome_lines o) * 4294967296
outcome_bound (Committed late) h = omega (arith, count_by-le-length is_fault_end late, late_lengths 1 late)
outcome_bound (Aborted report) h =
    omega (
      arith,
      records_bound report.records h.1,
      undo_lengths 1 report.records,
      length-append (undo_lines 1 report.records) (remains_lines report.records),
    )

entry_bound : (e : Entry) → IsEntryInRange e → length e.replies ≡ length e.calls → entry_faults e ≤ length (entry_text e) * 4294967296
entry_bound e h same =
    omega (arith, replies_bound e.replies h.replies, call_lengths e.calls e.replies same, outcome_bound e.outcome h.outcome, both_within e)

-- ---- effects that stand
outcome_stands : (o : Outcome) → outcome_remains o ≤ length (outcome_lines o)
outcome_stands (Committed late) = omega arith
outcome_stands (Aborted report) =
    omega (
      arith,
      count_by-le-length effect_remains report.records,
      undo_lengths 1 report.records,
      length-append (undo_lines 1 report.records) (remains_lines report.records),
    )

-- ---- the journal
-- each entry has as many replies as calls
abbrev pub AreAnswered : List Entry → Type 0
AreAnswered journal = AllByRecursion (λ (e : Entry). length e.replies ≡ length e.calls) journal

-- each entry has a byte
pub journal_lengths : (journal : List Entry) → length journal ≤ length (journal_text journal)
journal_lengths [] = omega arith
journal_lengths (e ∷ journal) =
    omega (arith, both 1 (length journal) (entry_text e) (journal_text journal) (entry_some e) (journal_lengths journal))

-- the faults of all
pub journal_faults : (journal : List Entry) → AllByRecursion IsEntryInRange journal → AreAnswered journal
    → sum_by entry_faults journal ≤ length (journal_text journal) * 4294967296
journal_faults [] h same = omega arith
journal_faults (e ∷ journal) h same =
    omega (
      arith,
      sum_by-cons entry_faults e journal,
      entry_bound e h.0 same.0,
      journal_faults journal h.1 same.1,
      length-append (entry_text e) (journal_text journal),
    )

-- the effects of all that stand
pub journal_stands : (journal : List Entry) → sum_by entry_remains journal ≤ length (journal_text journal)
journal_stands [] = omega arith
journal_stands (e ∷ journal) =
    omega (
      arith,
      sum_by-cons entry_remains e journal,
      outcome_stands e.outcome,
      outcome_within e,
      journal_stands journal,
      length-append (entry_text e) (journal_text journal),
    )

-- the lines of the jobs
pub job_lengths : (n : ℕ) (jobs : List JobLine) → length jobs ≤ length (job_lines n jobs)
job_lengths n [] = omega arith
job_lengths n (job ∷ jobs) =
    omega (arith, both 1 (length jobs) (job_line n job) (job_lines (n + 1) jobs) (some (job_line n job) tt) (job_lengths (n + 1) jobs))
