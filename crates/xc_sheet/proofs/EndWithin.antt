-- The lines of an end in its ranges are in theirs.
use Rattle.std.proofs.Common.{ℕ, zero, suc, ◌+◌, ◌^◌, ◌<◌, ◌≤◌, Bool, true, false, cond, List, [], ◌∷◌, ◌++◌, length, take, drop, arith}
use Rattle.std.specs.Prelude.{◌==◌}
use Rattle.std.specs.List.{AllByRecursion}
use Rattle.xc_data.specs.Remaining.{stopped_at, remains_from}
use Rattle.xc_data.specs.declared.call.Call.{Call}
use Rattle.xc_data.specs.declared.call.LateEnd.{LateEnd}
use Rattle.xc_data.specs.declared.call.Reply.{Reply}
use Rattle.xc_data.specs.declared.claim.Claim.{Claim}
use Rattle.xc_data.specs.declared.entry.Entry.{Entry}
use Rattle.xc_data.specs.declared.entry.JobLine.{JobLine}
use Rattle.xc_data.specs.declared.entry.KeptItem.{KeptItem}
use Rattle.xc_data.specs.declared.entry.KeptItem.TheVariants.{Bytes, Message}
use Rattle.xc_data.specs.declared.entry.Outcome.{Outcome}
use Rattle.xc_data.specs.declared.entry.Outcome.TheVariants.{Committed, Aborted}
use Rattle.xc_data.specs.declared.object.Num.{Num}
use Rattle.xc_data.specs.declared.undo.Undo.{Undo}
use Rattle.xc_data.specs.declared.undo.Undo.TheVariants as undoing
use Rattle.xc_data.specs.declared.undo.UndoEnd.{UndoEnd}
use Rattle.xc_data.specs.declared.undo.UndoEnd.TheVariants.{Undone, Failed, Blocked}
use Rattle.xc_print.specs.Kept.{is_same, join, joined}
use Rattle.xc_print.specs.Totals.{totals_of}
use Rattle.xc_lines.specs.Ranges.{AreBytes, IsCallInRange, IsReplyInRange, IsLateEndInRange, IsUndoEndInRange}
use Rattle.xc_lines.specs.Ranges.{IsStandingInRange, IsItemInRange, AreClaimsInRange}
use Rattle.xc_sheet.specs.declared.lines.Line.{Line}
use Rattle.xc_sheet.specs.declared.lines.Line.TheVariants as line
use Rattle.xc_sheet.specs.Ends.{kind_shown, effect_shown, lines_of_calls, lines_of_lates, lines_of_undos, line_of_effect, lines_of_effects}
use Rattle.xc_sheet.specs.Ends.{lines_of_outcome, line_of_held, lines_of_entry, lines_of_entries, lines_of_jobs, line_of_word, lines_of_words}
use Rattle.xc_sheet.specs.Ends.{lines_of_kept, line_of_totals, end_lines}
use Rattle.xc_sheet.specs.EndRanges.{IsUndoInRange, IsRecordInRange, IsOutcomeInRange, IsEntryInRange, IsJobInRange, IsWordInRange, IsEndInRange}
use Rattle.xc_sheet.specs.Ranges.{AreLinesInRange}

both_in : (a b : List Line) → AreLinesInRange a → AreLinesInRange b → AreLinesInRange (a ++ b)
both_in [] b first second = second
both_in (l ∷ a) b first second = (first.0, both_in a b first.1 second)

-- ---- bytes
bytes_behind : (n : ℕ) (bs : List ℕ) → AreBytes bs → AreBytes (drop n bs)
bytes_behind zero bs all = all
bytes_behind (suc n) [] all = tt
bytes_behind (suc n) (b ∷ bs) all = bytes_behind n bs all.1

bytes_before : (n : ℕ) (bs : List ℕ) → AreBytes bs → AreBytes (take n bs)
bytes_before zero bs all = tt
bytes_before (suc n) [] all = tt
bytes_before (suc n) (b ∷ bs) all = (all.0, bytes_before n bs all.1)

bytes_both : (a b : List ℕ) → AreBytes a → AreBytes b → AreBytes (a ++ b)
bytes_both [] b first second = second
bytes_both (x ∷ a) b first second = (first.0, bytes_both a b first.1 second)

-- ---- an entry
calls_in : (calls : List Call) (replies : List Reply) → AllByRecursion IsCallInRange calls → AllByRecursion IsReplyInRange replies
    → AreLinesInRange (lines_of_calls calls replies)
calls_in [] replies calls_are replies_are = tt
calls_in (call ∷ calls) [] calls_are replies_are = tt
calls_in (call ∷ calls) (reply ∷ replies) calls_are replies_are = ((calls_are.0, replies_are.0), calls_in calls replies calls_are.1 replies_are.1)

lates_in : (n : ℕ) (ends : List LateEnd) → n + length ends ≤ 2 ^ 32 → AllByRecursion IsLateEndInRange ends → AreLinesInRange (lines_of_lates n ends)
lates_in n [] few all = tt
lates_in n (end ∷ ends) few all = ((omega (arith, few), all.0), lates_in (n + 1) ends (omega (arith, few)) all.1)

undos_in : (n : ℕ) (records : List (Undo × UndoEnd)) → n + length records ≤ 2 ^ 32 → AllByRecursion IsRecordInRange records
    → AreLinesInRange (lines_of_undos n records)
undos_in n [] few all = tt
undos_in n ((undo, end) ∷ records) few all =
    both_in (lines_of_undos (n + 1) records) (line.Undo n (kind_shown undo) end ∷ []) (undos_in (n + 1) records (omega (arith, few)) all.1)
    ((omega (arith, few), all.0.1), tt)

shown_in : (undo : Undo) (k : ℕ) → k < 2 ^ 32 → IsUndoInRange undo → IsStandingInRange (effect_shown undo k)
shown_in (undoing.Overwrite file at before after n) k small within =
    (within.0, omega (arith, within.1, small), bytes_behind k (take n after) (bytes_before n after within.2))
shown_in (undoing.Append file from after n) k small within = (within.0, within.1, bytes_before n after within.2)
shown_in (undoing.Create name num) k small within = within
shown_in (undoing.Rename from to) k small within = within
shown_in (undoing.NewPipe num) k small within = within
shown_in (undoing.NewPair num) k small within = within

stopped_small : (undo : Undo) (done : ℕ) → done < 2 ^ 32 → stopped_at undo done < 2 ^ 32
stopped_small (undoing.Overwrite file at before after n) done small = small
stopped_small (undoing.Append file from after n) done small = omega arith
stopped_small (undoing.Create name num) done small = omega arith
stopped_small (undoing.Rename from to) done small = omega arith
stopped_small (undoing.NewPipe num) done small = omega arith
stopped_small (undoing.NewPair num) done small = omega arith

effect_in : (undo : Undo) (end : UndoEnd) → IsUndoInRange undo → IsUndoEndInRange end → AreLinesInRange (line_of_effect undo (remains_from undo end))
effect_in undo (Undone faults) within ended = tt
effect_in undo (Failed done faults) within ended = (shown_in undo (stopped_at undo done) (stopped_small undo done ended.0) within, tt)
effect_in undo (Blocked by) within ended = (shown_in undo 0 (omega arith) within, tt)

effects_in : (records : List (Undo × UndoEnd)) → AllByRecursion IsRecordInRange records → AreLinesInRange (lines_of_effects records)
effects_in [] all = tt
effects_in ((undo, end) ∷ records) all =
    both_in (line_of_effect undo (remains_from undo end)) (lines_of_effects records) (effect_in undo end all.0.0 all.0.1) (effects_in records all.1)

outcome_in : (o : Outcome) → IsOutcomeInRange o → AreLinesInRange (lines_of_outcome o)
outcome_in (Committed late) within = lates_in 1 late (omega (arith, within.0)) within.1
outcome_in (Aborted report) within =
    both_in (lines_of_undos 1 report.records) (lines_of_effects report.records)
    (undos_in 1 report.records (omega (arith, within.0)) within.1) (effects_in report.records within.1)

held_in : (claims : List Claim) → AreClaimsInRange claims → length claims ≤ 2 ^ 26 → AreLinesInRange (line_of_held claims)
held_in [] all few = tt
held_in (claim ∷ claims) all few = ((all.0, all.1, omega (arith, few)), tt)

entry_in : (e : Entry) → IsEntryInRange e → AreLinesInRange (lines_of_entry e)
entry_in e within = (
  within.head,
  both_in (lines_of_calls e.calls e.replies) (lines_of_outcome e.outcome ++ line_of_held e.held) (calls_in e.calls e.replies within.calls within.replies)
      (both_in (lines_of_outcome e.outcome) (line_of_held e.held) (outcome_in e.outcome within.outcome) (held_in e.held within.held within.few)),
)

entries_in : (journal : List Entry) → AllByRecursion IsEntryInRange journal → AreLinesInRange (lines_of_entries journal)
entries_in [] all = tt
entries_in (e ∷ journal) all = both_in (lines_of_entry e) (lines_of_entries journal) (entry_in e all.0) (entries_in journal all.1)

-- ---- the rest of an end
jobs_in : (n : ℕ) (jobs : List JobLine) → n + length jobs ≤ 2 ^ 32 → AllByRecursion IsJobInRange jobs → AreLinesInRange (lines_of_jobs n jobs)
jobs_in n [] few all = tt
jobs_in n (job ∷ jobs) few all = ((omega (arith, few), all.0), jobs_in (n + 1) jobs (omega (arith, few)) all.1)

word_in : (at value : ℕ) (b : Bool) → at < 2 ^ 64 → value < 2 ^ 64 → AreLinesInRange (cond b [] (line.Word at value ∷ []))
word_in at value true at_is value_is = tt
word_in at value false at_is value_is = ((at_is, value_is), tt)

words_in : (at : ℕ) (values : List ℕ) → at + length values ≤ 2 ^ 32 → AllByRecursion IsWordInRange values → AreLinesInRange (lines_of_words at values)
words_in at [] few all = tt
words_in at (value ∷ values) few all =
    both_in (line_of_word at value) (lines_of_words (at + 1) values) (word_in at value (value == 0) (omega (arith, few)) all.0)
    (words_in (at + 1) values (omega (arith, few)) all.1)

kept_in : (items : List KeptItem) → AllByRecursion IsItemInRange items → AreLinesInRange (lines_of_kept items)
kept_in [] all = tt
kept_in (item ∷ items) all = (all.0, kept_in items all.1)

one_piece : (b : Bool) (pipe next : Num) (bytes more : List ℕ) (items : List KeptItem) → IsItemInRange (Bytes pipe bytes) → IsItemInRange (Bytes next more)
    → AllByRecursion IsItemInRange items
    → AllByRecursion IsItemInRange (cond b (Bytes pipe (bytes ++ more) ∷ items) (Bytes pipe bytes ∷ Bytes next more ∷ items))
one_piece true pipe next bytes more items first second all = ((first.0, bytes_both bytes more first.1 second.1), all)
one_piece false pipe next bytes more items first second all = (first, (second, all))

join_in : (item : KeptItem) (items : List KeptItem) → IsItemInRange item → AllByRecursion IsItemInRange items → AllByRecursion IsItemInRange (join item items)
join_in (Bytes pipe bytes) [] first all = (first, tt)
join_in (Bytes pipe bytes) (Bytes next more ∷ items) first all = one_piece (is_same pipe next) pipe next bytes more items first all.0 all.1
join_in (Bytes pipe bytes) (Message pair side more ∷ items) first all = (first, all)
join_in (Message pair side bytes) items first all = (first, all)

joined_in : (items : List KeptItem) → AllByRecursion IsItemInRange items → AllByRecursion IsItemInRange (joined items)
joined_in [] all = tt
joined_in (item ∷ items) all = join_in item (joined items) all.0 (joined_in items all.1)

-- all lines
pub lines_in : (journal : List Entry) (jobs : List JobLine) (words : List ℕ) (kept : List KeptItem) → IsEndInRange journal jobs words kept
    → AreLinesInRange (end_lines journal jobs words kept)
lines_in journal jobs words kept within =
    let last = line_of_totals (totals_of journal) ∷ [] in
    let items = lines_of_kept (joined kept) in
    let values = lines_of_words 0 words in
    let named = lines_of_jobs 1 jobs in
    both_in (lines_of_entries journal) (named ++ (values ++ (items ++ last))) (entries_in journal within.entries)
    (both_in named (values ++ (items ++ last)) (jobs_in 1 jobs (omega (arith, within.few_jobs)) within.each_job)
    (both_in values (items ++ last) (words_in 0 words (omega (arith, within.few_words)) within.each_word)
    (both_in items last (kept_in (joined kept) (joined_in kept within.items))
    ((within.totals.committed, within.totals.aborted, within.totals.faults, within.totals.remains), tt))))
