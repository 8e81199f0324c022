-- Why each transaction ended as it did.
use Rattle.std.specs.Prelude.{◌≡◌, ℕ, true, List, [], ◌∷◌, length, take, get_or, slice_get, IsTrue}
use Rattle.std.specs.declared.option.Option.TheVariants.{Some}
use Rattle.xc_data.specs.declared.call.LateAnswer.TheVariants.{Fine}
use Rattle.xc_data.specs.declared.call.LateCall.{LateCall}
use Rattle.xc_data.specs.declared.call.LateEnd.{LateEnd}
use Rattle.xc_data.specs.declared.call.LateEnd.TheVariants as late_end
use Rattle.xc_data.specs.declared.entry.Cause.{Cause}
use Rattle.xc_data.specs.declared.entry.Cause.TheVariants as cause
use Rattle.xc_data.specs.declared.entry.Entry.{Entry}
use Rattle.xc_data.specs.declared.entry.Outcome.{Outcome}
use Rattle.xc_data.specs.declared.entry.Outcome.TheVariants.{Committed, Aborted}
use Rattle.xc_data.specs.declared.call.Call.TheVariants as call
use Rattle.xc_script.specs.declared.ask.Ask.{Ask}
use Rattle.xc_script.specs.declared.ask.Ask.TheVariants as ask
use Rattle.xc_script.specs.Position.{is_call_asked}
use Rattle.xc_script.specs.Blocks.{kept_calls}
use Rattle.xc_world.specs.Ends.{Ending}
use Rattle.xc_world.specs.Fits.{late_answer_of}
use Rattle.xc_world.specs.Late.{late}
use Rattle.xc_world.specs.World.{World}
use Rattle.xc_model.specs.Asked.{lasts_of}
use Rattle.xc_model.specs.Course.{opening_course}
use Rattle.xc_model.specs.Grounds.{Scene, Ground, Part, Revocation, scene_of}
use Rattle.xc_model.specs.Machine.{machine_part, machine_parts}
use Rattle.xc_model.specs.Progress.{Progress, body_of, progress_of}
use Rattle.xc_model.specs.Recorded.{no_records, all_records, IsStuckIn, saved_records}
use Rattle.xc_model.specs.Setting.{Setting}

-- a late call on this world ended in a fault or for lack of memory, as its end says; or else as it does where the host does its part
abbrev pub IsLateEnd : World → LateCall → LateEnd → Type 0
IsLateEnd w call (late_end.Fault n) = Unit {0}
IsLateEnd w call (late_end.NoMemory n) = Unit {0}
IsLateEnd w call end = end ≡ (late w call Fine).end

-- each of several did, one after another
abbrev pub AreLateEnds : World → List LateCall → List LateEnd → Type 0
AreLateEnds w [] ends = ends ≡ []
AreLateEnds w (call ∷ calls) [] = ⊥
AreLateEnds w (call ∷ calls) (end ∷ ends) = IsLateEnd w call end × AreLateEnds (late w call (late_answer_of end)).world calls ends

-- what an entry is judged by: its journal and its place in it, what the entries before led to, and what was asked after its replies
pub record Account : Type 0 where
  pub setting : Setting
  pub journal : List Entry
  pub place : ℕ
  pub before : Progress
  pub next : Ask
  pub entry : Entry

module _ (a : Account) where
  -- after its calls a transaction was asked its commit, and each call that was kept for it has an end; over a host that
  -- tells, the plain machine's
  pub record HasCommitted (ends : List LateEnd) : Type 0 where
    pub asked : a.next ≡ ask.Commit
    pub each : length ends ≡ length (kept_calls a.entry.calls a.entry.replies)
    pub late : IsTrue a.setting.tells
        → AreLateEnds (body_of a.before.state a.entry).world (body_of a.before.state a.entry).late ends

  -- its part
  abbrev pub own_part : Part
  own_part = machine_part a.before.state a.next a.entry

  -- all entries, and none that is active
  abbrev pub own_scene : Scene
  own_scene =
      let script = a.setting.script in
      scene_of a.setting.tells (machine_parts (opening_course script.outline) (lasts_of script a.journal) a.journal) []

  -- after its calls a transaction was asked an abort; or a call, which met what another one held; an older one revoked
  -- it; memory ran out; or it was asked to go back, and these records tell where that failed in its open block
  abbrev pub CauseHolds : List Ending → Cause → Type 0
  CauseHolds records cause.Asked = a.next ≡ ask.Abort
  CauseHolds records (cause.Conflict object holder at) =
      (is_call_asked a.next ≡ true) × Ground own_scene a.place own_part (record { object = object; number = holder; at = at })
  CauseHolds records (cause.Revoked object by at) =
      Revocation own_scene a.place own_part (record { object = object; number = by; at = at })
  CauseHolds records cause.NoMemory = Unit {0}
  CauseHolds records (cause.Stuck failed) =
      (a.next ≡ ask.Call call.Back)
      × IsStuckIn (saved_records (all_records no_records a.entry.calls a.entry.replies)) 1 records (cause.Stuck failed)

  -- it committed so, or was aborted with a cause
  abbrev pub IsAccounted : Outcome → Type 0
  IsAccounted (Committed ends) = HasCommitted ends
  IsAccounted (Aborted report) = CauseHolds report.records report.cause

-- what the entries before this place led to
abbrev pub progress_before : Setting → List Entry → ℕ → Progress
progress_before s journal place = progress_of s.script (take place journal)

-- what the entry at this place is judged by
abbrev pub account_of : Setting → List Entry → ℕ → Entry → Account
account_of s journal place e =
    let before = progress_before s journal place in
    let next = get_or (lasts_of s.script journal) place ask.End in
    record { setting = s; journal = journal; place = place; before = before; next = next; entry = e }

-- each transaction of a journal: it committed, but where there was a cause for its abort
abbrev pub AreAccounted : Setting → List Entry → Type 0
AreAccounted s journal =
    (place : ℕ) (e : Entry) → slice_get journal place ≡ Some e → IsAccounted (account_of s journal place e) e.outcome
