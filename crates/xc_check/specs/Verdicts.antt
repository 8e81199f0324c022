-- What a verdict says.
use Rattle.std.specs.Prelude.{◌≡◌, ◌⊎◌, ℕ, Bool, true, false, List, [], map, length}
use Rattle.xc_data.specs.declared.entry.Entry.{Entry}
use Rattle.xc_data.specs.declared.entry.JobLine.{JobLine}
use Rattle.xc_data.specs.declared.entry.KeptItem.{KeptItem}
use Rattle.xc_judge.specs.declared.basis.Basis.{Basis}
use Rattle.xc_model.specs.Grounds.{AreGrounded, scene_of}
use Rattle.xc_model.specs.Setting.{Setting}
use Rattle.xc_print.specs.Text.{rendered}
use Rattle.xc_print.specs.Totals.{totals_of}
use Rattle.xc_print.specs.declared.totals.Totals.{Totals}
use Rattle.xc_sheet.specs.EndRanges.{IsEndInRange}
use Rattle.xc_sheet.specs.declared.lines.Line.{Line}
use Rattle.xc_shown.specs.Shown.{shown_of}
use Rattle.xc_shown.specs.declared.shown.Shown.{Shown}
use Rattle.xc_tail.specs.Tails.{IsTail}
use Rattle.xc_check.specs.Fronts.{IsTrueFront, are_calls_known, journal_led, parts_of}
use Rattle.xc_check.specs.Refusals.{IsFalseIn, IsFalseText, IsFirstFalse, IsScriptAnd, IsUntoldEntry, IsUntoldText}
use Rattle.xc_check.specs.TrueTexts.{IsTrueAsPrinted, IsTrueText}
use Rattle.xc_check.specs.declared.verdict.Verdict.{Verdict}
use Rattle.xc_check.specs.declared.verdict.Verdict.TheVariants.{Yes, No, Untold}

-- these are the totals of each journal that is shown so
abbrev pub AreTotalsOf : List Shown → Totals → Type 0
AreTotalsOf entries totals = (journal : List Entry) → map shown_of journal ≡ entries → totals ≡ totals_of journal

-- the entries are those of a true journal, and the lines behind them those of an end to which it leads
pub record IsTrueIn (s : Setting) (entries : List Shown) (tail : List Line) : Type 0 where
  pub journal : List Entry
  pub shows : map shown_of journal ≡ entries
  pub front : IsTrueFront s (length entries) journal
  pub grounded : AreGrounded (scene_of (are_calls_known s) (parts_of s.script journal) [])
  pub ends : IsTail s (journal_led s.script journal) tail

-- of entries and the lines behind them
abbrev pub IsVerdictIn : Setting → List Shown → List Line → Verdict → Type 0
IsVerdictIn s entries tail Yes = IsTrueIn s entries tail
IsVerdictIn s entries tail (No line why) = IsFalseIn s entries tail line why
IsVerdictIn s entries tail (Untold line) = IsUntoldEntry s entries line

-- of a text whose lines stand in their places
abbrev pub IsVerdictOn : Setting → List ℕ → Verdict → Type 0
IsVerdictOn s text Yes = IsTrueText s text
IsVerdictOn s text (No line why) = IsFalseText s text line why
IsVerdictOn s text (Untold line) = IsUntoldText s text line

-- of a script and a text, or of a prologue of clients and a text
abbrev pub IsVerdict : List ℕ → Basis → List ℕ → Verdict → Type 0
IsVerdict script basis text Yes = IsScriptAnd script basis text (λ s. IsTrueText s text)
IsVerdict script basis text (No line why) = IsFirstFalse script basis text line why
IsVerdict script basis text (Untold line) = IsScriptAnd script basis text (λ s. IsUntoldText s text line)

-- it isn't no, and of a script's text it is yes
abbrev pub IsAccepting : Bool → Verdict → Type 0
IsAccepting false verdict = verdict ≡ Yes
IsAccepting true verdict = (verdict ≡ Yes) ⊎ ((line : ℕ) × (verdict ≡ Untold line))

-- the text of a true end whose numbers have their sizes, as those of each run have, is said to be true; of clients it may be that of
-- an entry it can't be said
abbrev pub AcceptsTrueTexts : List ℕ → Basis → List ℕ → Verdict → Type 0
AcceptsTrueTexts script basis text verdict =
    (journal : List Entry) (jobs : List JobLine) (words : List ℕ) (kept : List KeptItem) → IsEndInRange journal jobs words kept
    → IsScriptAnd script basis text (λ s. IsTrueAsPrinted s journal jobs words kept) → text ≡ rendered journal jobs words kept
    → IsAccepting basis.clients verdict
