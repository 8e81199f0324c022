-- What the lines of a text are, and what a verdict on it says of the whole.
use Rattle.std.proofs.Common.{◌≡◌, ◌∙◌, inl, inr, ◌+◌, ◌<◌, ◌≤◌, ℕ, suc, All, Err, IfOk, List, [], ◌∷◌, ◌++◌, Ok, length, refl, ap, sym, subst, arith}
use Rattle.std.specs.Prelude.{Bool, Result, true, false}
use Rattle.std.proofs.lemmas.Bool.{cases_lt}
use Rattle.std.proofs.lemmas.List.{length-append}
use Rattle.std.proofs.lemmas.List.Elements.{All-head, All-tail}
use Rattle.xc_data.specs.declared.entry.Entry.{Entry}
use Rattle.xc_data.specs.declared.entry.JobLine.{JobLine}
use Rattle.xc_data.specs.declared.entry.KeptItem.{KeptItem}
use Rattle.xc_data.specs.declared.memory.NoMemory.{NoMemory}
use Rattle.xc_judge.specs.declared.basis.Basis.{Basis}
use Rattle.xc_model.specs.Live.{has_clients}
use Rattle.xc_model.specs.Setting.{Setting}
use Rattle.xc_print.specs.Text.{rendered}
use Rattle.xc_sheet.specs.EndRanges.{IsEndInRange}
use Rattle.xc_sheet.specs.Lines.{line_text}
use Rattle.xc_sheet.specs.Places.{lines_text}
use Rattle.xc_sheet.specs.Sheets.{AreWholeFrom, HaveText}
use Rattle.xc_sheet.specs.declared.lines.Line.{Line}
use Rattle.xc_sheet.specs.declared.places.LinePlace.TheVariants.{Between}
use Rattle.xc_sheet.specs.declared.sheet.Sheet.{Sheet}
use Rattle.xc_sheet.specs.declared.sheet.Unreadable.{Unreadable}
use Rattle.xc_sheet.specs.declared.sheet.Unreadable.TheVariants.{TooLong}
use Rattle.xc_shown.specs.Shown.{IsPlain, IsReplied, bare, is_of_entry, lines_of_shown, shown_lines}
use Rattle.xc_shown.specs.declared.shown.Shown.{Shown}
use Rattle.xc_text.proofs.Laws.{of_clients}
use Rattle.xc_text.specs.Scripts.{IsScript, parse_of}
use Rattle.xc_text.specs.declared.script.Script.{Script}
use Rattle.xc_check.specs.Refusals.{IsFalseText, IsFirstFalse, IsPlainlyShown, IsScriptAnd, IsShownBy}
use Rattle.xc_check.specs.TrueTexts.{IsTrueAsPrinted, script_by, telling_by}
use Rattle.xc_check.specs.Verdicts.{AcceptsTrueTexts, IsAccepting, IsVerdict, IsVerdictIn, IsVerdictOn}
use Rattle.xc_check.specs.declared.verdict.CheckWhy.{CheckWhy}
use Rattle.xc_check.specs.declared.verdict.CheckWhy.TheVariants as why
use Rattle.xc_check.specs.declared.verdict.Verdict.{Verdict}
use Rattle.xc_check.specs.declared.verdict.Verdict.TheVariants.{No, Untold, Yes}
use Rattle.xc_check.proofs.Truths.{true_text}

-- ---- how many lines there are
one_more : (n a b : ℕ) → 0 < a → n ≤ b → suc n ≤ a + b
one_more n a b some less = omega (arith, some, less)

-- no more lines than bytes
pub lines_within : (lines : List Line) → HaveText lines → length lines ≤ length (lines_text lines)
unfolding lines_text
lines_within [] some = omega arith
lines_within (l ∷ lines) some =
    let rest = lines_within lines (All-tail (λ (l : Line). 0 < length (line_text l)) l lines some) in
    let first = All-head (λ (l : Line). 0 < length (line_text l)) l lines some in
    let size = length-append (line_text l) (lines_text lines) in
    subst (λ n. suc (length lines) ≤ n) (sym size) (one_more (length lines) (length (line_text l)) (length (lines_text lines)) first rest)

-- no more entries than lines
pub entries_within : (entries : List Shown) → length entries ≤ length (shown_lines entries)
entries_within [] = omega arith
entries_within (shown ∷ entries) =
    let size = length-append (lines_of_shown shown) (shown_lines entries) in
    subst (λ n. suc (length entries) ≤ n) (sym size)
    (one_more (length entries) (length (lines_of_shown shown)) (length (shown_lines entries)) (omega arith) (entries_within entries))

-- those of entries are no more than all
pub front_within : (lines : List Line) (entries : List Shown) (tail : List Line) → lines ≡ shown_lines entries ++ tail
    → length (shown_lines entries) ≤ length lines
front_within lines entries tail parts =
    let size : length lines ≡ length (shown_lines entries) + length tail = ap length parts ∙ length-append (shown_lines entries) tail in
    omega (arith, size)

-- ---- of a verdict
module _ (script : List ℕ) (basis : Basis) (text : List ℕ) (read : Script) (short : length text ≤ 67108864) (parsed : parse_of script ≡ Ok read) where
  -- a reason for which it is false is the first one
  pub first_false : (line : ℕ) (r : CheckWhy) → IsFalseText (telling_by basis read) text line r → IsFirstFalse script basis text line r
  first_false line why.TooLong h = absurd h.false_in
  first_false line why.Script h = absurd h.false_in
  first_false line why.Form h = absurd h.false_in
  first_false line (why.Entry r) h = (short, read, parsed, h)
  first_false line why.Grounds h = (short, read, parsed, h)
  first_false line why.Tail h = (short, read, parsed, h)

  -- a verdict on a text whose script is in the grammar
  pub verdict_with : (verdict : Verdict) → IsVerdictOn (telling_by basis read) text verdict → IsVerdict script basis text verdict
  verdict_with Yes says = (short, read, parsed, says)
  verdict_with (No line r) says = first_false line r says
  verdict_with (Untold line) says = (short, read, parsed, says)

-- ---- of entries and the lines behind them
-- what each entry that was parted shows
pub all_plainly : (entries : List Shown) → All (λ (shown : Shown). bare shown.entry ≡ shown.entry) entries
    → All (λ (shown : Shown). IsReplied shown.entry) entries → All (λ (shown : Shown). IsPlain shown.entry.outcome shown) entries
    → All IsPlainlyShown entries
all_plainly entries bared replied plain k d low = record { without = bared k d low; each = replied k d low; plain = plain k d low }

-- a text shows them, whose lines these are
pub shown_by : (entries : List Shown) (tail lines : List Line) (text : List ℕ) → lines ≡ shown_lines entries ++ tail
    → AreWholeFrom Between lines text → All IsPlainlyShown entries → All (λ (l : Line). is_of_entry l ≡ false) tail → IsShownBy text entries tail
shown_by entries tail lines text parts whole plainly behind =
    record { whole = subst (λ (ls : List Line). AreWholeFrom Between ls text) parts whole; plainly = plainly; behind = behind }

-- a verdict on them is one on the text that shows them
pub verdict_on : (s : Setting) (entries : List Shown) (tail lines : List Line) (text : List ℕ) → lines ≡ shown_lines entries ++ tail
    → AreWholeFrom Between lines text → IsShownBy text entries tail → s.tells ≡ true → (verdict : Verdict) → IsVerdictIn s entries tail verdict
    → IsVerdictOn s text verdict
verdict_on s entries tail lines text parts whole shown tells Yes says = true_text s entries tail lines text tells says parts whole.written
verdict_on s entries tail lines text parts whole shown tells (No line r) says =
    record { entries = entries; tail = tail; shown = shown; false_in = says }
verdict_on s entries tail lines text parts whole shown tells (Untold line) says =
    record { entries = entries; tail = tail; shown = shown; untold_in = says }

-- ---- of what was read
-- what was read isn't too long
pub not_long : (text : List ℕ) (r : Result Sheet Unreadable) (sheet : Sheet) → r ≡ Ok sheet → (67108864 < length text → r ≡ Err TooLong)
    → length text ≤ 67108864
not_long text r sheet ok long =
    elim (cases_lt 67108864 (length text)) [
      | inl more ↦ let other = sym ok ∙ long more in cc
      | inr within ↦ within
    ]

-- bytes are one script at most
pub one_script : (bytes : List ℕ) (a b : Script) → parse_of bytes ≡ Ok a → parse_of bytes ≡ Ok b → a ≡ b
one_script bytes a b is other = let same = sym is ∙ other in cc

-- what holds of the text of each true end where there is a verdict
pub where_accepted : (script : List ℕ) (basis : Basis) (text : List ℕ) (r : Result Verdict NoMemory)
    → ((journal : List Entry) (jobs : List JobLine) (words : List ℕ) (kept : List KeptItem) → IsEndInRange journal jobs words kept
    → IsScriptAnd script basis text (λ s. IsTrueAsPrinted s journal jobs words kept) → text ≡ rendered journal jobs words kept
    → IfOk r (IsAccepting basis.clients))
    → IfOk r (AcceptsTrueTexts script basis text)
where_accepted script basis text (Ok verdict) h = h
where_accepted script basis text (Err e) h = tt

-- ---- of the script that was read, or of the prologue
-- it is one
pub is_script_by : (b : Bool) (read : Script) → IsScript read → IsScript (script_by b read)
is_script_by false read h = h
is_script_by true read h = of_clients read h

-- with its outline
pub outline_by : (b : Bool) (read : Script) → (script_by b read).outline ≡ read.outline
outline_by false read = refl
outline_by true read = refl

-- and it is asked so
pub clients_by : (b : Bool) (read : Script) → read.clients ≡ false → has_clients (script_by b read) ≡ b
clients_by false read own = own
clients_by true read own = refl
