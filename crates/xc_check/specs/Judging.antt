-- What has been judged so far.
use Rattle.std.specs.Prelude.{◌≡◌, ◌≢◌, ℕ, ◌<◌, List, [], length, map, slice_get}
use Rattle.std.specs.declared.option.Option.TheVariants.{Some}
use Rattle.xc_data.specs.declared.entry.Entry.{Entry}
use Rattle.xc_grounds.specs.Numbered.{entry_begins}
use Rattle.xc_judge.specs.Judged.{IsOpenTo}
use Rattle.xc_model.specs.Grounds.{AreGrounded, scene_of}
use Rattle.xc_model.specs.Setting.{Setting}
use Rattle.xc_shown.specs.Shown.{shown_of}
use Rattle.xc_shown.specs.declared.shown.Shown.{Shown}
use Rattle.xc_check.specs.Fronts.{IsTrueFront, are_calls_known, course_behind, parts_of, script_behind}
use Rattle.xc_check.specs.declared.judging.Judging.{Judging}

-- none of these has this number
abbrev pub IsNewTo : List (ℕ × ℕ) → ℕ → Type 0
IsNewTo begins tx = (k : ℕ) (b : ℕ × ℕ) → slice_get begins k ≡ Some b → b.0 ≢ tx

-- of the entries that are shown before, of so many: they are those of a true front, and this is where it led
pub record IsJudged (s : Setting) (count : ℕ) (before : List Shown) (j : Judging) : Type 0 where
  pub front : List Entry
  pub shows : map shown_of front ≡ before
  pub is_true : IsTrueFront s count front
  pub course : j.progress ≡ course_behind s.script front
  pub asked : j.jobs ≡ script_behind s.script front
  pub parts_are : j.parts.items ≡ parts_of s.script front
  -- a transaction of any other number may begin
  pub opens : (tx : ℕ) → 0 < tx → IsNewTo (entry_begins front) tx → IsOpenTo j.progress tx

-- the same of all entries, whose conflicts and revocations are grounded
pub record IsTrueSoFar (s : Setting) (entries : List Shown) (j : Judging) : Type 0 where
  pub judged : IsJudged s (length entries) entries j
  pub grounded : AreGrounded (scene_of (are_calls_known s) j.parts.items [])
