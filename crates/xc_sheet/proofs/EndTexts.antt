-- The printed text of an end is that of its lines.
use Rattle.std.proofs.Common.{◌≡◌, ℕ, ◌+◌, Bool, true, false, cond, List, [], ◌∷◌, ◌++◌, Option, refl, sym, ap, ◌∙◌, append_assoc}
use Rattle.std.proofs.lemmas.List.{append-nil}
use Rattle.std.specs.Prelude.{◌==◌, codes}
use Rattle.std.specs.Fmt.{decimal}
use Rattle.std.specs.List.{flat_map}
use Rattle.std.specs.declared.option.Option.TheVariants.{None, Some}
use Rattle.xc_data.specs.Remaining.{remains_from}
use Rattle.xc_data.specs.declared.call.Call.{Call}
use Rattle.xc_data.specs.declared.call.LateEnd.{LateEnd}
use Rattle.xc_data.specs.declared.call.Reply.{Reply}
use Rattle.xc_data.specs.declared.claim.Claim.{Claim}
use Rattle.xc_data.specs.declared.entry.Entry.{Entry}
use Rattle.xc_data.specs.declared.entry.JobEnd.{JobEnd}
use Rattle.xc_data.specs.declared.entry.JobEnd.TheVariants as job_end
use Rattle.xc_data.specs.declared.entry.JobLine.{JobLine}
use Rattle.xc_data.specs.declared.entry.KeptItem.{KeptItem}
use Rattle.xc_data.specs.declared.entry.Outcome.{Outcome}
use Rattle.xc_data.specs.declared.entry.Outcome.TheVariants.{Committed, Aborted}
use Rattle.xc_data.specs.declared.undo.Undo.{Undo}
use Rattle.xc_data.specs.declared.undo.Undo.TheVariants as undoing
use Rattle.xc_data.specs.declared.undo.UndoEnd.{UndoEnd}
use Rattle.xc_print.specs.Entries.{outcome_word, attempt_text, outcome_cause, head_line, call_line, call_lines, late_line, late_lines, outcome_lines}
use Rattle.xc_print.specs.Entries.{entry_text, journal_text}
use Rattle.xc_print.specs.Kept.{joined, kept_line, kept_lines}
use Rattle.xc_print.specs.Objects.{held_line}
use Rattle.xc_print.specs.Records.{undo_line, undo_lines, remaining_line, remains_lines}
use Rattle.xc_print.specs.Text.{job_line, job_lines, word_line, word_lines, rendered}
use Rattle.xc_print.specs.Totals.{totals_of, totals_line}
use Rattle.xc_lines.specs.Heads.{word_of, cause_of}
use Rattle.xc_sheet.specs.declared.lines.Line.{Line}
use Rattle.xc_sheet.specs.declared.lines.Line.TheVariants as line
use Rattle.xc_sheet.specs.Ends.{kind_shown, job_end_shown, cause_shown, head_shown, lines_of_calls, lines_of_lates, lines_of_undos}
use Rattle.xc_sheet.specs.Ends.{line_of_effect, lines_of_effects}
use Rattle.xc_sheet.specs.Ends.{lines_of_outcome, line_of_held, lines_of_entry, lines_of_entries, lines_of_jobs, line_of_word, lines_of_words}
use Rattle.xc_sheet.specs.Ends.{lines_of_kept, line_of_totals, end_lines}
use Rattle.xc_sheet.specs.Lines.{line_text}
use Rattle.xc_sheet.specs.Places.{lines_text}

-- ---- the text of several lines
pub text_append : (a b : List Line) → lines_text (a ++ b) ≡ lines_text a ++ lines_text b
unfolding lines_text
text_append [] b = refl
text_append (l ∷ a) b = ap (λ t. line_text l ++ t) (text_append a b) ∙ sym (append_assoc (line_text l) (lines_text a) (lines_text b))

text_one : (l : Line) → lines_text (l ∷ []) ≡ line_text l
unfolding lines_text
text_one l = append-nil (line_text l)

-- ---- an entry
outcome_head : (o : Outcome) → (word_of (cause_shown o) ≡ outcome_word o) × (cause_of (cause_shown o) ≡ outcome_cause o)
outcome_head (Committed late) = (refl, refl)
outcome_head (Aborted report) = (refl, refl)

head_is : (e : Entry) → line_text (line.Head (head_shown e)) ≡ head_line e
head_is e =
    let o = outcome_head e.outcome in
    ap (λ w. w ++ attempt_text e ++ cause_of (cause_shown e.outcome) ++ codes "\n") o.0
    ∙ ap (λ c. outcome_word e.outcome ++ attempt_text e ++ c ++ codes "\n") o.1

calls_are : (calls : List Call) (replies : List Reply) → lines_text (lines_of_calls calls replies) ≡ call_lines calls replies
unfolding lines_text
calls_are [] replies = refl
calls_are (call ∷ calls) [] = refl
calls_are (call ∷ calls) (reply ∷ replies) = ap (λ t. call_line call reply ++ t) (calls_are calls replies)

lates_are : (n : ℕ) (ends : List LateEnd) → lines_text (lines_of_lates n ends) ≡ late_lines n ends
unfolding lines_text
lates_are n [] = refl
lates_are n (end ∷ ends) = ap (λ t. late_line n end ++ t) (lates_are (n + 1) ends)

undo_is : (n : ℕ) (undo : Undo) (end : UndoEnd) → line_text (line.Undo n (kind_shown undo) end) ≡ undo_line n (undo, end)
undo_is n (undoing.Overwrite file at before after k) end = refl
undo_is n (undoing.Append file from after k) end = refl
undo_is n (undoing.Create name num) end = refl
undo_is n (undoing.Rename from to) end = refl
undo_is n (undoing.NewPipe num) end = refl
undo_is n (undoing.NewPair num) end = refl

undos_are : (n : ℕ) (records : List (Undo × UndoEnd)) → lines_text (lines_of_undos n records) ≡ undo_lines n records
unfolding lines_text
undos_are n [] = refl
undos_are n ((undo, end) ∷ records) =
    text_append (lines_of_undos (n + 1) records) (line.Undo n (kind_shown undo) end ∷ [])
    ∙ ap (λ t. t ++ lines_text (line.Undo n (kind_shown undo) end ∷ [])) (undos_are (n + 1) records)
    ∙ ap (λ t. undo_lines (n + 1) records ++ t) (text_one (line.Undo n (kind_shown undo) end) ∙ undo_is n undo end)

effect_is : (undo : Undo) (from : Option ℕ) → lines_text (line_of_effect undo from) ≡ remaining_line undo from
unfolding lines_text
effect_is undo None = refl
effect_is (undoing.Overwrite file at before after n) (Some k) = append-nil _
effect_is (undoing.Append file from after n) (Some k) = append-nil _
effect_is (undoing.Create name num) (Some k) = append-nil _
effect_is (undoing.Rename from to) (Some k) = append-nil _
effect_is (undoing.NewPipe num) (Some k) = append-nil _
effect_is (undoing.NewPair num) (Some k) = append-nil _

effects_are : (records : List (Undo × UndoEnd)) → lines_text (lines_of_effects records) ≡ remains_lines records
unfolding lines_text
effects_are [] = refl
effects_are ((undo, end) ∷ records) =
    text_append (line_of_effect undo (remains_from undo end)) (lines_of_effects records)
    ∙ ap (λ t. t ++ lines_text (lines_of_effects records)) (effect_is undo (remains_from undo end))
    ∙ ap (λ t. remaining_line undo (remains_from undo end) ++ t) (effects_are records)

outcome_is : (o : Outcome) → lines_text (lines_of_outcome o) ≡ outcome_lines o
outcome_is (Committed late) = lates_are 1 late
outcome_is (Aborted report) =
    text_append (lines_of_undos 1 report.records) (lines_of_effects report.records)
    ∙ ap (λ t. t ++ lines_text (lines_of_effects report.records)) (undos_are 1 report.records)
    ∙ ap (λ t. undo_lines 1 report.records ++ t) (effects_are report.records)

held_is : (claims : List Claim) → lines_text (line_of_held claims) ≡ held_line claims
unfolding lines_text
held_is [] = refl
held_is (claim ∷ claims) = append-nil _

-- pieces in one order or the other
joined_four : (a b c d : List ℕ) → a ++ (b ++ (c ++ d)) ≡ a ++ b ++ c ++ d
joined_four a b c d = simp append_assoc

joined_five : (a b c d e : List ℕ) → a ++ (b ++ (c ++ (d ++ e))) ≡ a ++ b ++ c ++ d ++ e
joined_five a b c d e = simp append_assoc

-- the text of lines behind other ones
behind_text : (a b : List Line) (s t : List ℕ) → lines_text a ≡ s → lines_text b ≡ t → lines_text (a ++ b) ≡ s ++ t
behind_text a b s t a_is b_is = text_append a b ∙ ap (λ x. x ++ lines_text b) a_is ∙ ap (λ x. s ++ x) b_is

entry_is : (e : Entry) → lines_text (lines_of_entry e) ≡ entry_text e
unfolding lines_text
entry_is e =
    ap (λ t. t ++ lines_text (lines_of_calls e.calls e.replies ++ (lines_of_outcome e.outcome ++ line_of_held e.held))) (head_is e)
    ∙ ap (λ t. head_line e ++ t)
    (behind_text (lines_of_calls e.calls e.replies) (lines_of_outcome e.outcome ++ line_of_held e.held) (call_lines e.calls e.replies)
    (outcome_lines e.outcome ++ held_line e.held) (calls_are e.calls e.replies)
    (behind_text (lines_of_outcome e.outcome) (line_of_held e.held) (outcome_lines e.outcome) (held_line e.held) (outcome_is e.outcome) (held_is e.held)))
    ∙ joined_four (head_line e) (call_lines e.calls e.replies) (outcome_lines e.outcome) (held_line e.held)

entries_are : (journal : List Entry) → lines_text (lines_of_entries journal) ≡ journal_text journal
unfolding lines_text
entries_are [] = refl
entries_are (e ∷ journal) = behind_text (lines_of_entry e) (lines_of_entries journal) (entry_text e) (journal_text journal) (entry_is e) (entries_are journal)

-- ---- the rest of an end
job_is : (n : ℕ) (block : List ℕ) (end : JobEnd) → line_text (line.Job n block (job_end_shown end)) ≡ job_line n (record { block = block; end = end })
job_is n block job_end.Done = refl
job_is n block (job_end.GaveUp cause) = refl
job_is n block job_end.JournalFull = refl
job_is n block job_end.NoMemory = refl

jobs_are : (n : ℕ) (jobs : List JobLine) → lines_text (lines_of_jobs n jobs) ≡ job_lines n jobs
unfolding lines_text
jobs_are n [] = refl
jobs_are n (job ∷ jobs) =
    ap (λ t. t ++ lines_text (lines_of_jobs (n + 1) jobs)) (job_is n job.block job.end) ∙ ap (λ t. job_line n job ++ t) (jobs_are (n + 1) jobs)

word_by : (at value : ℕ) (b : Bool) → lines_text (cond b [] (line.Word at value ∷ []))
    ≡ cond b [] (codes "word " ++ decimal at ++ codes " " ++ decimal value ++ codes "\n")
unfolding lines_text
word_by at value true = refl
word_by at value false = append-nil _

words_are : (at : ℕ) (values : List ℕ) → lines_text (lines_of_words at values) ≡ word_lines at values
unfolding lines_text
words_are at [] = refl
words_are at (value ∷ values) =
    behind_text (line_of_word at value) (lines_of_words (at + 1) values) (word_line at value) (word_lines (at + 1) values)
    (word_by at value (value == 0)) (words_are (at + 1) values)

items_are : (items : List KeptItem) → lines_text (lines_of_kept items) ≡ flat_map kept_line items
unfolding lines_text
items_are [] = refl
items_are (item ∷ items) = ap (λ t. kept_line item ++ t) (items_are items)

-- the printed text of an end is that of its lines
pub text_is : (journal : List Entry) (jobs : List JobLine) (words : List ℕ) (kept : List KeptItem)
    → rendered journal jobs words kept ≡ lines_text (end_lines journal jobs words kept)
text_is journal jobs words kept =
    let last = line_of_totals (totals_of journal) ∷ [] in
    let items = lines_of_kept (joined kept) in
    let values = lines_of_words 0 words in
    let named = lines_of_jobs 1 jobs in
    sym (
    behind_text (lines_of_entries journal) (named ++ (values ++ (items ++ last))) (journal_text journal)
    (job_lines 1 jobs ++ (word_lines 0 words ++ (kept_lines kept ++ totals_line (totals_of journal)))) (entries_are journal)
    (behind_text named (values ++ (items ++ last)) (job_lines 1 jobs) (word_lines 0 words ++ (kept_lines kept ++ totals_line (totals_of journal)))
    (jobs_are 1 jobs)
    (behind_text values (items ++ last) (word_lines 0 words) (kept_lines kept ++ totals_line (totals_of journal)) (words_are 0 words)
    (behind_text items last (kept_lines kept) (totals_line (totals_of journal)) (items_are (joined kept))
    (text_one (line_of_totals (totals_of journal))))))
    ∙ joined_five (journal_text journal) (job_lines 1 jobs) (word_lines 0 words) (kept_lines kept) (totals_line (totals_of journal))
    )
