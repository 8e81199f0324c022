-- What is read of the lines of entries, from the last one on, are these entries.
use Rattle.std.proofs.Common.{◌≡◌, ℕ, ◌+◌, false, List, [], ◌∷◌, ◌++◌, length, map, Option, Some, None, refl, sym, ap, ◌∙◌, append_assoc, arith}
use Rattle.std.proofs.lemmas.List.{append-nil}
use Rattle.std.specs.List.{AllByRecursion}
use Rattle.xc_data.specs.Remaining.{remains_from}
use Rattle.xc_data.specs.declared.call.Call.{Call}
use Rattle.xc_data.specs.declared.call.LateEnd.{LateEnd}
use Rattle.xc_data.specs.declared.call.Reply.{Reply}
use Rattle.xc_data.specs.declared.claim.Claim.{Claim}
use Rattle.xc_data.specs.declared.entry.Entry.{Entry}
use Rattle.xc_data.specs.declared.entry.Outcome.{Outcome}
use Rattle.xc_data.specs.declared.entry.Outcome.TheVariants.{Committed, Aborted}
use Rattle.xc_data.specs.declared.undo.Undo.{Undo}
use Rattle.xc_data.specs.declared.undo.UndoEnd.{UndoEnd}
use Rattle.xc_lines.specs.declared.shown.EffectShown.{EffectShown}
use Rattle.xc_lines.specs.declared.shown.UndoKind.{UndoKind}
use Rattle.xc_sheet.specs.Ends.{kind_shown, effect_shown, cause_shown, head_shown, lines_of_calls, lines_of_lates}
use Rattle.xc_sheet.specs.Ends.{lines_of_undos, line_of_effect, lines_of_effects}
use Rattle.xc_sheet.specs.Ends.{lines_of_outcome, line_of_held, lines_of_entry, lines_of_entries}
use Rattle.xc_sheet.specs.declared.lines.Line.{Line}
use Rattle.xc_sheet.specs.declared.lines.Line.TheVariants as line
use Rattle.xc_shown.specs.Parting.{nothing_gathered, with_line, with_lines}
use Rattle.xc_shown.specs.Shown.{bare, bare_outcome, records_of, record_shown, effect_from, effects_shown, shown_of, lines_of_records, lines_of_standing}
use Rattle.xc_shown.specs.Shown.{lines_of_outcome_shown, lines_of_shown, shown_lines, is_of_entry, IsReplied, IsPlain}
use Rattle.xc_shown.specs.declared.gathered.Gathered.{Gathered}
use Rattle.xc_shown.specs.declared.shown.Shown.{Shown}
use Rattle.xc_shown.proofs.Gathering.{last_first}
use Rattle.xc_shown.proofs.Grammar.{IsToldWhole, AreTail}

-- ---- parts of lines, read
-- two parts, the second one first
after_both : (front back : List Line) (g : Gathered) → with_lines (front ++ back) g ≡ with_lines front (with_lines back g)
unfolding with_lines
after_both [] back g = refl
after_both (l ∷ front) back g = ap (with_line l) (after_both front back g)

-- a line behind the entries
tail_line : (l : Line) (g : Gathered) → is_of_entry l ≡ false → with_line l g ≡ record g { tail = l ∷ g.tail }
tail_line (line.Job number block end) g e = refl
tail_line (line.Word at value) g e = refl
tail_line (line.Kept item) g e = refl
tail_line (line.Total committed aborted faults remains) g e = refl
tail_line l g e = absurd cc

-- those of a tail
tail_read : (lines : List Line) (g : Gathered) → AreTail lines → with_lines lines g ≡ record g { tail = lines ++ g.tail }
unfolding with_lines
tail_read [] g all = refl
tail_read (l ∷ lines) g all = ap (with_line l) (tail_read lines g all.1) ∙ tail_line l (record g { tail = lines ++ g.tail }) all.0

-- that of held objects, where none are known yet
held_read : (claims : List Claim) (g : Gathered) → g.held ≡ [] → with_lines (line_of_held claims) g ≡ record g { held = claims }
unfolding with_lines
held_read [] g none = ap (λ h. record g { held = h }) none
held_read (claim ∷ claims) g none = refl

-- those of effects
effects_read : (effects : List EffectShown) (g : Gathered) → with_lines (lines_of_standing effects) g ≡ record g { effects = effects ++ g.effects }
unfolding with_lines
effects_read [] g = refl
effects_read (effect ∷ effects) g = ap (with_line (line.Remains effect)) (effects_read effects g)

-- those of records, which come behind older ones
records_read : (n : ℕ) (records : List (UndoKind × UndoEnd)) (g : Gathered)
    → with_lines (lines_of_records n records) g ≡ record g { records = g.records ++ records }
unfolding with_lines
records_read n [] g = sym (ap (λ rs. record g { records = rs }) (append-nil g.records))
records_read n ((kind, end) ∷ records) g =
    last_first (lines_of_records (n + 1) records) (line.Undo n kind end) g
    ∙ records_read (n + 1) records (record g { records = g.records ++ (kind, end) ∷ [] })
    ∙ ap (λ rs. record g { records = rs }) (append_assoc g.records ((kind, end) ∷ []) records)

-- those of late calls
lates_read : (n : ℕ) (ends : List LateEnd) (g : Gathered) → with_lines (lines_of_lates n ends) g ≡ record g { late = ends ++ g.late }
unfolding with_lines
lates_read n [] g = refl
lates_read n (end ∷ ends) g = ap (with_line (line.Late n end)) (lates_read (n + 1) ends g)

-- those of calls that have their replies
calls_read : (calls : List Call) (replies : List Reply) (g : Gathered) → length calls ≡ length replies
    → with_lines (lines_of_calls calls replies) g ≡ record g { calls = calls ++ g.calls; replies = replies ++ g.replies }
unfolding with_lines
calls_read [] [] g each = refl
calls_read [] (reply ∷ replies) g each = absurd (omega (arith, each))
calls_read (call ∷ calls) [] g each = absurd (omega (arith, each))
calls_read (call ∷ calls) (reply ∷ replies) g each =
    let rest : length calls ≡ length replies = omega (arith, each) in
    ap (with_line (line.Call call reply)) (calls_read calls replies g rest)

-- ---- an entry
-- what was read behind it
abbrev gathered_behind : List Shown → List Line → Gathered
gathered_behind entries tail = record nothing_gathered { entries = entries; tail = tail }

-- a commit behind its first line
commit_read : (calls : List Call) (replies : List Reply) (late : List LateEnd) (claims : List Claim) (g : Gathered)
    → length calls ≡ length replies → g.held ≡ []
    → with_lines (lines_of_calls calls replies ++ (lines_of_lates 1 late ++ line_of_held claims)) g
    ≡ record g { calls = calls ++ g.calls; replies = replies ++ g.replies; late = late ++ g.late; held = claims }
commit_read calls replies late claims g each none =
    after_both (lines_of_calls calls replies) (lines_of_lates 1 late ++ line_of_held claims) g
    ∙ ap (with_lines (lines_of_calls calls replies))
    (after_both (lines_of_lates 1 late) (line_of_held claims) g ∙ ap (with_lines (lines_of_lates 1 late)) (held_read claims g none)
    ∙ lates_read 1 late (record g { held = claims }))
    ∙ calls_read calls replies (record g { late = late ++ g.late; held = claims }) each

-- an abort behind its first line
abort_read : (calls : List Call) (replies : List Reply) (records : List (UndoKind × UndoEnd)) (effects : List EffectShown) (claims : List Claim) (g : Gathered)
    → length calls ≡ length replies → g.held ≡ []
    → with_lines (lines_of_calls calls replies ++ ((lines_of_records 1 records ++ lines_of_standing effects) ++ line_of_held claims)) g
    ≡ record g {
      calls = calls ++ g.calls;
      replies = replies ++ g.replies;
      records = g.records ++ records;
      effects = effects ++ g.effects;
      held = claims;
    }
abort_read calls replies records effects claims g each none =
    after_both (lines_of_calls calls replies) ((lines_of_records 1 records ++ lines_of_standing effects) ++ line_of_held claims) g
    ∙ ap (with_lines (lines_of_calls calls replies))
    (after_both (lines_of_records 1 records ++ lines_of_standing effects) (line_of_held claims) g
    ∙ ap (with_lines (lines_of_records 1 records ++ lines_of_standing effects)) (held_read claims g none)
    ∙ after_both (lines_of_records 1 records) (lines_of_standing effects) (record g { held = claims })
    ∙ ap (with_lines (lines_of_records 1 records)) (effects_read effects (record g { held = claims }))
    ∙ records_read 1 records (record g { held = claims; effects = effects ++ g.effects }))
    ∙ calls_read calls replies (record g { held = claims; effects = effects ++ g.effects; records = g.records ++ records }) each

-- the lines of an entry with this outcome are read as what they show, where this has neither records in its report nor, of a commit,
-- beside it
outcome_read : (shown : Shown) (o : Outcome) (entries : List Shown) (tail : List Line) → IsReplied shown.entry → bare_outcome o ≡ o → IsPlain o shown
    → with_lines (lines_of_shown (record shown { entry = record shown.entry { outcome = o } })) (gathered_behind entries tail)
    ≡ gathered_behind (record shown { entry = record shown.entry { outcome = o } } ∷ entries) tail
unfolding with_lines
outcome_read shown (Committed late) entries tail each without plain =
    let e = shown.entry in
    let no_records = sym plain.0 in
    let no_effects = sym plain.1 in
    let same_calls = append-nil e.calls in
    let same_replies = append-nil e.replies in
    let same_late = append-nil late in
    ap (with_line (line.Head (head_shown (record e { outcome = Committed late }))))
    (commit_read e.calls e.replies late e.held (gathered_behind entries tail) each refl)
    ∙ (λ i. gathered_behind (record {
      entry = record e { calls = same_calls i; replies = same_replies i; outcome = Committed (same_late i) };
      records = no_records i;
      effects = no_effects i;
    } ∷ entries) tail)
outcome_read shown (Aborted report) entries tail each without plain =
    let e = shown.entry in
    let same_calls = append-nil e.calls in
    let same_replies = append-nil e.replies in
    let same_effects = append-nil shown.effects in
    ap (with_line (line.Head (head_shown (record e { outcome = Aborted report }))))
    (abort_read e.calls e.replies shown.records shown.effects e.held (gathered_behind entries tail) each refl)
    ∙ (λ i. gathered_behind (record {
      entry = record e { calls = same_calls i; replies = same_replies i; outcome = without i };
      records = shown.records;
      effects = same_effects i;
    } ∷ entries) tail)

-- the lines of an entry are read as what they show, where this is all that they tell
shown_read : (shown : Shown) (entries : List Shown) (tail : List Line) → IsToldWhole shown
    → with_lines (lines_of_shown shown) (gathered_behind entries tail) ≡ gathered_behind (shown ∷ entries) tail
shown_read shown entries tail whole =
    outcome_read shown shown.entry.outcome entries tail whole.each (ap (λ (e : Entry). e.outcome) whole.without) whole.plain

-- lines of entries and a tail are read as these
pub parts_read : (entries : List Shown) (tail : List Line) → AllByRecursion IsToldWhole entries → AreTail tail
    → with_lines (shown_lines entries ++ tail) nothing_gathered ≡ gathered_behind entries tail
parts_read [] tail whole all = tail_read tail nothing_gathered all ∙ ap (gathered_behind []) (append-nil tail)
parts_read (shown ∷ entries) tail whole all =
    ap (λ ls. with_lines ls nothing_gathered) (append_assoc (lines_of_shown shown) (shown_lines entries) tail)
    ∙ after_both (lines_of_shown shown) (shown_lines entries ++ tail) nothing_gathered
    ∙ ap (with_lines (lines_of_shown shown)) (parts_read entries tail whole.1 all)
    ∙ shown_read shown entries tail whole.0

-- so lines part in one way alone
pub parted_alike : (a b : List Shown) (t u : List Line) → AllByRecursion IsToldWhole a → AllByRecursion IsToldWhole b → AreTail t → AreTail u
    → shown_lines a ++ t ≡ shown_lines b ++ u → (a ≡ b) × (t ≡ u)
parted_alike a b t u whole_a whole_b tail_t tail_u same =
    let e = sym (parts_read a t whole_a tail_t) ∙ ap (λ ls. with_lines ls nothing_gathered) same ∙ parts_read b u whole_b tail_u in
    (ap (λ (g : Gathered). g.entries) e, ap (λ (g : Gathered). g.tail) e)

-- ---- what the lines of a journal show
-- the lines of records are those of what is shown of them
undos_shown : (n : ℕ) (records : List (Undo × UndoEnd)) → lines_of_undos n records ≡ lines_of_records n (map record_shown records)
undos_shown n [] = refl
undos_shown n ((undo, end) ∷ records) = ap (λ ls. ls ++ line.Undo n (kind_shown undo) end ∷ []) (undos_shown (n + 1) records)

-- that of an effect, in front of others
effect_shows : (undo : Undo) (from : Option ℕ) (effects : List EffectShown) (lines : List Line) → lines ≡ lines_of_standing effects
    → line_of_effect undo from ++ lines ≡ lines_of_standing (effect_from undo from ++ effects)
effect_shows undo None effects lines e = e
effect_shows undo (Some k) effects lines e = ap (λ ls. line.Remains (effect_shown undo k) ∷ ls) e

-- those of effects
effects_show : (records : List (Undo × UndoEnd)) → lines_of_effects records ≡ lines_of_standing (effects_shown records)
effects_show [] = refl
effects_show ((undo, end) ∷ records) =
    effect_shows undo (remains_from undo end) (effects_shown records) (lines_of_effects records) (effects_show records)

-- those of an outcome
outcome_shows : (o : Outcome) (e : Entry) → lines_of_outcome o
    ≡ lines_of_outcome_shown (bare_outcome o) (record { entry = e; records = map record_shown (records_of o); effects = effects_shown (records_of o) })
outcome_shows (Committed late) e = refl
outcome_shows (Aborted report) e = (λ i. undos_shown 1 report.records i ++ effects_show report.records i)

-- an outcome without its records has the same cause
head_bare : (o : Outcome) → cause_shown o ≡ cause_shown (bare_outcome o)
head_bare (Committed late) = refl
head_bare (Aborted report) = refl

-- the lines of an entry are those of what they show
pub entry_shows : (e : Entry) → lines_of_entry e ≡ lines_of_shown (shown_of e)
entry_shows e =
    let cause = head_bare e.outcome in
    let ends = outcome_shows e.outcome (bare e) in
    (λ i. line.Head (record { tx = e.tx; job = e.job; rank = e.rank; began = e.began; cause = cause i })
    ∷ (lines_of_calls e.calls e.replies ++ (ends i ++ line_of_held e.held)))

-- those of entries are those of what they show
pub entries_show : (journal : List Entry) → lines_of_entries journal ≡ shown_lines (map shown_of journal)
entries_show [] = refl
entries_show (e ∷ journal) =
    let first = entry_shows e in
    let more = entries_show journal in
    (λ i. first i ++ more i)

-- without records none are left to take
bare_again : (o : Outcome) → bare_outcome (bare_outcome o) ≡ bare_outcome o
bare_again (Committed late) = refl
bare_again (Aborted report) = refl

-- a commit shows neither records nor effects
plain_outcome : (o : Outcome) (e : Entry)
    → IsPlain (bare_outcome o) (record { entry = e; records = map record_shown (records_of o); effects = effects_shown (records_of o) })
plain_outcome (Committed late) e = (refl, refl)
plain_outcome (Aborted report) e = tt

-- what an entry's lines show is all that they tell
pub shows_whole : (e : Entry) → IsReplied e → IsToldWhole (shown_of e)
shows_whole e each =
    record { without = ap (λ o. record e { outcome = o }) (bare_again e.outcome); each = each; plain = plain_outcome e.outcome (bare e) }

-- the same of each
pub all_whole : (journal : List Entry) → AllByRecursion IsReplied journal → AllByRecursion IsToldWhole (map shown_of journal)
all_whole [] each = tt
all_whole (e ∷ journal) each = (shows_whole e each.0, all_whole journal each.1)
