-- The parts of the lines of a whole text.
use Rattle.std.proofs.Common.{◌≡◌, ℕ, ◌+◌, Bool, true, false, List, [], ◌∷◌, ◌++◌, map, Some, refl, sym, ap, subst, ◌∙◌, append_assoc}
use Rattle.std.proofs.lemmas.List.Elements.{All-from_recursion, recursion_from_All, All-weaker}
use Rattle.std.specs.List.{All, AllByRecursion}
use Rattle.std.specs.Prelude.{◌==◌, if◌then◌else◌}
use Rattle.xc_data.specs.declared.entry.Entry.{Entry}
use Rattle.xc_data.specs.declared.entry.JobLine.{JobLine}
use Rattle.xc_data.specs.declared.entry.KeptItem.{KeptItem}
use Rattle.xc_print.specs.Kept.{joined}
use Rattle.xc_print.specs.Totals.{totals_of}
use Rattle.xc_sheet.specs.Ends.{lines_of_jobs, line_of_word, lines_of_words, lines_of_kept, line_of_totals, end_lines}
use Rattle.xc_sheet.specs.Places.{behind_lines}
use Rattle.xc_sheet.specs.Sheets.{HaveText}
use Rattle.xc_sheet.specs.declared.lines.Line.{Line}
use Rattle.xc_sheet.specs.declared.lines.Line.TheVariants as line
use Rattle.xc_sheet.specs.declared.places.LinePlace.TheVariants as place
use Rattle.xc_shown.specs.Parting.{nothing_gathered, with_lines}
use Rattle.xc_shown.specs.Shown.{bare, shown_of, shown_lines, tail_lines, is_of_entry, IsReplied, IsPlain}
use Rattle.xc_shown.specs.declared.gathered.Gathered.{Gathered}
use Rattle.xc_shown.specs.declared.shown.Shown.{Shown}
use Rattle.xc_shown.proofs.Grammar.{IsToldWhole, AreTail, HasText, are_of_entries}
use Rattle.xc_shown.proofs.Parting.{parts_read, entries_show, all_whole}

-- lines in these parts, which show all that they tell
pub record AreParts (lines : List Line) (entries : List Shown) (tail : List Line) : Type 0 where
  pub joined : lines ≡ shown_lines entries ++ tail
  pub whole : AllByRecursion IsToldWhole entries
  pub behind : AreTail tail

-- what was read of a whole text are its parts
pub parts_of_all : (lines : List Line) (g : Gathered) (entries : List Shown) (tail : List Line)
    → behind_lines (Some place.Between) lines ≡ Some place.Ended → HaveText lines → g ≡ with_lines lines nothing_gathered
    → entries ≡ g.entries → tail ≡ g.tail → AreParts lines entries tail
parts_of_all lines g entries tail placed some read same_entries same_tail =
    let e = are_of_entries lines (recursion_from_All HasText lines some) placed in
    let whole = read ∙ ap (λ ls. with_lines ls nothing_gathered) e.are ∙ parts_read e.entries e.tail e.whole e.behind in
    let to_entries = same_entries ∙ ap (λ (g : Gathered). g.entries) whole in
    let to_tail = same_tail ∙ ap (λ (g : Gathered). g.tail) whole in
    subst (λ es. AreParts lines es tail) (sym to_entries)
    (subst (AreParts lines e.entries) (sym to_tail) (record { joined = e.are; whole = e.whole; behind = e.behind }))

-- ---- what the parts show
-- no records in a report
pub parts_bare : (lines : List Line) (entries : List Shown) (tail : List Line) → AreParts lines entries tail
    → All (λ (shown : Shown). bare shown.entry ≡ shown.entry) entries
parts_bare lines entries tail are =
    All-weaker IsToldWhole (λ (shown : Shown). bare shown.entry ≡ shown.entry) (λ shown whole. whole.without) entries
    (All-from_recursion IsToldWhole entries are.whole)

-- a reply to each call
pub parts_replied : (lines : List Line) (entries : List Shown) (tail : List Line) → AreParts lines entries tail
    → All (λ (shown : Shown). IsReplied shown.entry) entries
parts_replied lines entries tail are =
    All-weaker IsToldWhole (λ (shown : Shown). IsReplied shown.entry) (λ shown whole. whole.each) entries (All-from_recursion IsToldWhole entries are.whole)

-- of a commit neither records nor effects
pub parts_plain : (lines : List Line) (entries : List Shown) (tail : List Line) → AreParts lines entries tail
    → All (λ (shown : Shown). IsPlain shown.entry.outcome shown) entries
parts_plain lines entries tail are =
    All-weaker IsToldWhole (λ (shown : Shown). IsPlain shown.entry.outcome shown) (λ shown whole. whole.plain) entries
    (All-from_recursion IsToldWhole entries are.whole)

-- and no line of an entry behind them
pub parts_tail : (lines : List Line) (entries : List Shown) (tail : List Line) → AreParts lines entries tail
    → All (λ (l : Line). is_of_entry l ≡ false) tail
parts_tail lines entries tail are = All-from_recursion (λ (l : Line). is_of_entry l ≡ false) tail are.behind

-- ---- the lines of an end
-- those of jobs, in front of a tail
jobs_behind : (n : ℕ) (jobs : List JobLine) (rest : List Line) → AreTail rest → AreTail (lines_of_jobs n jobs ++ rest)
jobs_behind n [] rest all = all
jobs_behind n (job ∷ jobs) rest all = (refl, jobs_behind (n + 1) jobs rest all)

-- that of a word, if it has one
word_behind : (at value : ℕ) (b : Bool) (rest : List Line) → AreTail rest → AreTail ((if b then [] else line.Word at value ∷ []) ++ rest)
word_behind at value true rest all = all
word_behind at value false rest all = (refl, all)

-- those of words
words_behind : (at : ℕ) (words : List ℕ) (rest : List Line) → AreTail rest → AreTail (lines_of_words at words ++ rest)
words_behind at [] rest all = all
words_behind at (value ∷ words) rest all =
    subst AreTail (sym (append_assoc (line_of_word at value) (lines_of_words (at + 1) words) rest))
    (word_behind at value (value == 0) (lines_of_words (at + 1) words ++ rest) (words_behind (at + 1) words rest all))

-- those of kept data
kept_behind : (items : List KeptItem) (rest : List Line) → AreTail rest → AreTail (lines_of_kept items ++ rest)
kept_behind [] rest all = all
kept_behind (item ∷ items) rest all = (refl, kept_behind items rest all)

-- none behind the entries is of one
pub tail_behind : (journal : List Entry) (jobs : List JobLine) (words : List ℕ) (kept : List KeptItem) → AreTail (tail_lines journal jobs words kept)
tail_behind journal jobs words kept =
    jobs_behind 1 jobs (lines_of_words 0 words ++ (lines_of_kept (joined kept) ++ line_of_totals (totals_of journal) ∷ []))
    (words_behind 0 words (lines_of_kept (joined kept) ++ line_of_totals (totals_of journal) ∷ [])
    (kept_behind (joined kept) (line_of_totals (totals_of journal) ∷ []) (refl, tt)))

-- the lines of an end are parted as they are
pub only_parts : (lines : List Line) (g : Gathered) (entries : List Shown) (tail : List Line) → g ≡ with_lines lines nothing_gathered → entries ≡ g.entries
    → tail ≡ g.tail → (journal : List Entry) (jobs : List JobLine) (words : List ℕ) (kept : List KeptItem) → lines ≡ end_lines journal jobs words kept
    → All IsReplied journal → (map shown_of journal ≡ entries) × (tail ≡ tail_lines journal jobs words kept)
only_parts lines g entries tail read same_entries same_tail journal jobs words kept are each =
    let rest = tail_lines journal jobs words kept in
    let whole = read ∙ ap (λ ls. with_lines ls nothing_gathered) (are ∙ ap (λ ls. ls ++ rest) (entries_show journal))
    ∙ parts_read (map shown_of journal) rest (all_whole journal (recursion_from_All IsReplied journal each)) (tail_behind journal jobs words kept) in
    (sym (same_entries ∙ ap (λ (g : Gathered). g.entries) whole), same_tail ∙ ap (λ (g : Gathered). g.tail) whole)
