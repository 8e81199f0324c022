-- The last text of a run, and the texts before it.
use Rattle.std.proofs.Common.{◌≡◌, ℕ, ◌-◌, List, [], ◌∷◌, ◌++◌, length, take, append_assoc, refl, sym, ap, ◌∙◌}
use Rattle.std.specs.Prelude.{cond}
use Rattle.std.proofs.Math.Nat.{add-sub_cancel}
use Rattle.std.proofs.Math.Seq.{take-append_seam}
use Rattle.std.proofs.lemmas.List.{length-append}
use Rattle.std.proofs.lemmas.List.Sums.{sum_by-append}
use Rattle.xc_data.specs.Faults.{entry_faults}
use Rattle.xc_data.specs.declared.entry.Entry.{Entry}
use Rattle.xc_journal.specs.Told.{waiting_of}
use Rattle.xc_memhost.specs.State.{MemState}
use Rattle.xc_print.specs.Entries.{entry_text, journal_text}
use Rattle.xc_print.specs.Kept.{kept_lines}
use Rattle.xc_print.specs.Text.{job_lines, rendered, word_lines}
use Rattle.xc_print.specs.Totals.{entry_remains, is_aborted, is_committed, totals_line, totals_of}
use Rattle.xc_print.specs.declared.totals.Totals.{Totals}
use Rattle.xc_station.specs.declared.run_result.End.{End}
use Rattle.xc_live_c.specs.Finished.{both_totals, last_text}

-- ---- another last line
-- what stands in front of the last bytes
take_front : (front last : List ℕ) → take (length (front ++ last) - length last) (front ++ last) ≡ front
take_front front last =
    ap (λ (n : ℕ). take n (front ++ last)) (ap (λ (n : ℕ). n - length last) (length-append front last) ∙ add-sub_cancel (length front) (length last))
    ∙ take-append_seam front last

-- the text of an end, with the totals of all in the place of those of what wasn't handed out
pub last_from : (counted held all : Totals) (end : End MemState) (text last other new : List ℕ) → held ≡ totals_of (waiting_of end.journal)
    → all ≡ both_totals counted held → text ≡ rendered (waiting_of end.journal) end.jobs end.words end.kept → last ≡ totals_line held
    → other ≡ totals_line all → new ≡ take (length text - length last) text ++ other → new ≡ last_text counted end
last_from counted held all end text last other new held_is all_is text_is last_is other_is new_is =
    let front : List ℕ = journal_text (waiting_of end.journal) ++ job_lines 1 end.jobs ++ word_lines 0 end.words ++ kept_lines end.kept in
    let line : List ℕ = totals_line (totals_of (waiting_of end.journal)) in
    new_is
    ∙ ap (λ (x : List ℕ). take (length x - length last) x ++ other) text_is
    ∙ ap (λ (x : List ℕ). take (length (front ++ line) - length x) (front ++ line) ++ other) (last_is ∙ ap totals_line held_is)
    ∙ ap (λ (x : List ℕ). x ++ other) (take_front front line)
    ∙ ap (λ (x : List ℕ). front ++ x) (other_is ∙ ap totals_line (all_is ∙ ap (both_totals counted) held_is))

-- ---- texts one after another
-- the text of some entries and of others
pub texts_more : (one other : List Entry) → journal_text (one ++ other) ≡ journal_text one ++ journal_text other
texts_more [] other = refl
texts_more (e ∷ es) other =
    ap (λ (x : List ℕ). entry_text e ++ x) (texts_more es other) ∙ sym (append_assoc (entry_text e) (journal_text es) (journal_text other))

-- their totals
pub totals_more : (one other : List Entry) → totals_of (one ++ other) ≡ both_totals (totals_of one) (totals_of other)
totals_more one other =
    let committed = sum_by-append (λ (e : Entry). cond (is_committed e) 1 0) one other in
    let aborted = sum_by-append (λ (e : Entry). cond (is_aborted e) 1 0) one other in
    let faults = sum_by-append entry_faults one other in
    let remains = sum_by-append entry_remains one other in
    λ i. record { committed = committed i; aborted = aborted i; faults = faults i; remains = remains i }

-- a list in front of five others
in_front : (a b c d e f : List ℕ) → a ++ (b ++ c ++ d ++ e ++ f) ≡ (a ++ b) ++ c ++ d ++ e ++ f
in_front a b c d e f =
    sym (append_assoc a (b ++ c ++ d ++ e) f)
    ∙ ap (λ (x : List ℕ). x ++ f) (sym (append_assoc a (b ++ c ++ d) e)
    ∙ ap (λ (x : List ℕ). x ++ e) (sym (append_assoc a (b ++ c) d) ∙ ap (λ (x : List ℕ). x ++ d) (sym (append_assoc a b c))))

-- behind the text of what was handed out the last one makes the text of the whole run
pub texts_whole : (gone : List Entry) (end : End MemState)
    → journal_text gone ++ last_text (totals_of gone) end ≡ rendered (gone ++ waiting_of end.journal) end.jobs end.words end.kept
texts_whole gone end =
    let held : List Entry = waiting_of end.journal in
    let jobs : List ℕ = job_lines 1 end.jobs in
    let words : List ℕ = word_lines 0 end.words in
    let kept : List ℕ = kept_lines end.kept in
    in_front (journal_text gone) (journal_text held) jobs words kept (totals_line (both_totals (totals_of gone) (totals_of held)))
    ∙ ap (λ (x : List ℕ). x ++ jobs ++ words ++ kept ++ totals_line (both_totals (totals_of gone) (totals_of held))) (sym (texts_more gone held))
    ∙ ap (λ (x : Totals). journal_text (gone ++ held) ++ jobs ++ words ++ kept ++ totals_line x) (sym (totals_more gone held))
