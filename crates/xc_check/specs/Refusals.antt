-- The first reason for which a text is false.
use Rattle.std.specs.Prelude.{◌≡◌, ℕ, ◌+◌, ◌<◌, ◌≤◌, All, List, [], ◌∷◌, ◌++◌, Err, Ok, true, false, length, map, slice_get, take}
use Rattle.std.specs.declared.option.Option.TheVariants.{Some}
use Rattle.xc_data.specs.declared.entry.Entry.{Entry}
use Rattle.xc_tokens.specs.declared.why.Why.{Why}
use Rattle.xc_grounds.specs.Groundless.{IsFirstGroundless}
use Rattle.xc_grounds.specs.Numbered.{AreNumbered, entry_begins}
use Rattle.xc_judge.specs.Judged.{place_of_reason}
use Rattle.xc_judge.specs.Stepped.{MeetsSo}
use Rattle.xc_judge.specs.declared.basis.Basis.{Basis}
use Rattle.xc_judge.specs.declared.reason.Reason.{Reason}
use Rattle.xc_judge.specs.declared.reason.Reason.TheVariants as reason
use Rattle.xc_model.specs.Asked.{IsAskedEntry}
use Rattle.xc_model.specs.Grounds.{AreGrounded, scene_of}
use Rattle.xc_model.specs.Stories.{entry_begin}
use Rattle.xc_model.specs.Setting.{Setting}
use Rattle.xc_sheet.specs.Sheets.{AreWholeFrom, IsReadSheet}
use Rattle.xc_sheet.specs.declared.ending.Ending.TheVariants.{Broken}
use Rattle.xc_sheet.specs.declared.lines.Line.{Line}
use Rattle.xc_sheet.specs.declared.places.LinePlace.TheVariants.{Between}
use Rattle.xc_shown.specs.Shown.{IsPlain, IsReplied, bare, is_of_entry, shown_lines, shown_of}
use Rattle.xc_shown.specs.declared.shown.Shown.{Shown}
use Rattle.xc_tail.specs.Tails.{IsTail}
use Rattle.xc_text.specs.Scripts.{parse_of}
use Rattle.xc_text.specs.declared.script.Script.{Script}
use Rattle.xc_check.specs.Fronts.{IsTrueFront, are_calls_known, course_behind, last_behind, journal_led, parts_of, script_behind}
use Rattle.xc_check.specs.TrueTexts.{telling_by}
use Rattle.xc_check.specs.Untold.{basis_of, is_untold}
use Rattle.xc_check.specs.declared.verdict.CheckWhy.{CheckWhy}
use Rattle.xc_check.specs.declared.verdict.CheckWhy.TheVariants as why

-- ---- of an entry
-- what the machine asks of it behind a front
abbrev pub MeetsSoBehind : Setting → List Entry → Shown → Reason → Type 0
MeetsSoBehind s front shown r = MeetsSo (basis_of s) (course_behind s.script front) (last_behind s.script front shown.entry) shown r

-- what a reason denies: the numbers go on in order, and the script asked it
abbrev pub MeetsBehind : Setting → ℕ → List Entry → Shown → Reason → Type 0
MeetsBehind s count front shown reason.Numbers =
    AreNumbered count (entry_begins front ++ entry_begin shown.entry ∷ []) × MeetsSoBehind s front shown reason.Numbers
MeetsBehind s count front shown reason.Story =
    MeetsSoBehind s front shown reason.Story
    × IsAskedEntry s.script (script_behind s.script front) (last_behind s.script front shown.entry) shown.entry
MeetsBehind s count front shown reason.Reply = MeetsSoBehind s front shown reason.Reply
MeetsBehind s count front shown reason.Late = MeetsSoBehind s front shown reason.Late
MeetsBehind s count front shown reason.Records = MeetsSoBehind s front shown reason.Records
MeetsBehind s count front shown reason.Held = MeetsSoBehind s front shown reason.Held

-- an entry that is shown so doesn't meet this, but all that comes before it
pub record IsRefusedBehind (s : Setting) (count : ℕ) (front : List Entry) (shown : Shown) (r : Reason) : Type 0 where
  pub fails : MeetsBehind s count front shown r → ⊥
  pub before : (other : Reason) → place_of_reason other < place_of_reason r → MeetsBehind s count front shown other

-- the same behind entries that are shown so: they are those of a true front
pub record IsRefusedIn (s : Setting) (count : ℕ) (before : List Shown) (shown : Shown) (r : Reason) : Type 0 where
  pub front : List Entry
  pub shows : map shown_of front ≡ before
  pub is_true : IsTrueFront s count front
  pub refused : IsRefusedBehind s count front shown r

-- the same of the one at this place
pub record IsRefusedAt (s : Setting) (count : ℕ) (entries : List Shown) (place : ℕ) (r : Reason) : Type 0 where
  pub before : List Shown
  pub shown : Shown
  pub behind : List Shown
  pub parts : entries ≡ before ++ shown ∷ behind
  pub at : place ≡ length before
  pub refused : IsRefusedIn s count before shown r

-- ---- of a text whose lines show these entries, and these lines behind them
-- the line behind these entries
abbrev pub line_behind : List Shown → ℕ
line_behind entries = length (shown_lines entries) + 1

-- the first line of each entry, and that behind them
abbrev pub AreFirstLines : List Shown → List ℕ → Type 0
AreFirstLines entries lines =
    (length lines ≡ length entries + 1) × ((k : ℕ) → k ≤ length entries → slice_get lines k ≡ Some (line_behind (take k entries)))

-- the entry of this line is the first that is false, and for this reason
pub record IsFalseEntry (s : Setting) (entries : List Shown) (line : ℕ) (r : Reason) : Type 0 where
  pub place : ℕ
  pub refused : IsRefusedAt s (length entries) entries place r
  -- it is, whatever was asked last
  pub told : is_untold s refused.shown.entry r ≡ false
  pub line_is : line ≡ line_behind (take place entries)

-- of the entry of this line it can't be said: those before it are true, and it was aborted for want of memory. By its calls alone it
-- would be false, but the one that was asked last, which the text doesn't show, may have left a record, and claimed objects
pub record IsUntoldEntry (s : Setting) (entries : List Shown) (line : ℕ) : Type 0 where
  pub place : ℕ
  pub reason : Reason
  pub refused : IsRefusedAt s (length entries) entries place reason
  pub untold : is_untold s refused.shown.entry reason ≡ true
  pub line_is : line ≡ line_behind (take place entries)

-- the entries are true, but for the conflict or the revocation of that of this line, which is the first such
pub record IsFalseGround (s : Setting) (entries : List Shown) (line : ℕ) : Type 0 where
  pub journal : List Entry
  pub place : ℕ
  pub shows : map shown_of journal ≡ entries
  pub is_true : IsTrueFront s (length entries) journal
  pub groundless : IsFirstGroundless (are_calls_known s) (parts_of s.script journal) place
  pub line_is : line ≡ line_behind (take place entries)

-- the entries are true, and the lines behind them are not those of an end to which they lead
pub record IsFalseTail (s : Setting) (entries : List Shown) (tail : List Line) (line : ℕ) : Type 0 where
  pub journal : List Entry
  pub shows : map shown_of journal ≡ entries
  pub is_true : IsTrueFront s (length entries) journal
  pub grounded : AreGrounded (scene_of (are_calls_known s) (parts_of s.script journal) [])
  pub fails : IsTail s (journal_led s.script journal) tail → ⊥
  pub line_is : line ≡ line_behind entries

-- what is false of entries and the lines behind them, behind the form
abbrev pub IsFalseIn : Setting → List Shown → List Line → ℕ → CheckWhy → Type 0
IsFalseIn s entries tail line (why.Entry r) = IsFalseEntry s entries line r
IsFalseIn s entries tail line why.Grounds = IsFalseGround s entries line
IsFalseIn s entries tail line why.Tail = IsFalseTail s entries tail line
IsFalseIn s entries tail line why.TooLong = ⊥
IsFalseIn s entries tail line why.Script = ⊥
IsFalseIn s entries tail line why.Form = ⊥

-- ---- of a script and a text
-- what a text shows of an entry, and no more: no contents of records, a reply to each call, and of a commit neither records nor effects
pub record IsPlainlyShown (shown : Shown) : Type 0 where
  pub without : bare shown.entry ≡ shown.entry
  pub each : IsReplied shown.entry
  pub plain : IsPlain shown.entry.outcome shown

-- the lines of a whole text, each in its place, show these entries, and these are the lines behind them
pub record IsShownBy (text : List ℕ) (entries : List Shown) (tail : List Line) : Type 0 where
  pub whole : AreWholeFrom Between (shown_lines entries ++ tail) text
  pub plainly : All IsPlainlyShown entries
  pub behind : All (λ (l : Line). is_of_entry l ≡ false) tail

-- the same of a text that shows them
pub record IsFalseText (s : Setting) (text : List ℕ) (line : ℕ) (r : CheckWhy) : Type 0 where
  pub entries : List Shown
  pub tail : List Line
  pub shown : IsShownBy text entries tail
  pub false_in : IsFalseIn s entries tail line r

-- the same of one of whose entries it can't be said
pub record IsUntoldText (s : Setting) (text : List ℕ) (line : ℕ) : Type 0 where
  pub entries : List Shown
  pub tail : List Line
  pub shown : IsShownBy text entries tail
  pub untold_in : IsUntoldEntry s entries line

-- the text is not too long, the script is in the grammar, and this is so
abbrev pub IsScriptAnd : List ℕ → Basis → List ℕ → (Setting → Type 0) → Type 0
IsScriptAnd script basis text says = (length text ≤ 67108864) × (read : Script) × (parse_of script ≡ Ok read) × says (telling_by basis read)

-- reading breaks off at this line
abbrev pub BreaksOff : List ℕ → ℕ → Type 0
BreaksOff text line = (lines : List Line) × IsReadSheet text lines (Broken line)

-- the first that is false, in the order of the reasons
abbrev pub IsFirstFalse : List ℕ → Basis → List ℕ → ℕ → CheckWhy → Type 0
IsFirstFalse script basis text line why.TooLong = (line ≡ 0) × (67108864 < length text)
IsFirstFalse script basis text line why.Script =
    (line ≡ 0) × (length text ≤ 67108864) × (at : ℕ) × (reason : Why) × (parse_of script ≡ Err (at, reason))
IsFirstFalse script basis text line why.Form = IsScriptAnd script basis text (λ s. BreaksOff text line)
IsFirstFalse script basis text line (why.Entry r) = IsScriptAnd script basis text (λ s. IsFalseText s text line (why.Entry r))
IsFirstFalse script basis text line why.Grounds = IsScriptAnd script basis text (λ s. IsFalseText s text line why.Grounds)
IsFirstFalse script basis text line why.Tail = IsScriptAnd script basis text (λ s. IsFalseText s text line why.Tail)
