-- How each entry of a true journal is accounted for.
use Rattle.std.proofs.Common.{◌≡◌, ℕ, zero, suc, List, [], ◌∷◌, IsTrue, take, get_or, ap, sym, subst}
use Rattle.std.specs.List.{fold}
use Rattle.std.specs.Prelude.{slice_get, Option}
use Rattle.std.specs.declared.option.Option.TheVariants.{Some}
use Rattle.xc_data.specs.declared.call.LateCall.{LateCall}
use Rattle.xc_data.specs.declared.call.LateEnd.{LateEnd}
use Rattle.xc_data.specs.declared.call.LateEnd.TheVariants as late_end
use Rattle.xc_data.specs.declared.entry.Cause.{Cause}
use Rattle.xc_data.specs.declared.entry.Cause.TheVariants as cause
use Rattle.xc_data.specs.declared.entry.Entry.{Entry}
use Rattle.xc_data.specs.declared.entry.Outcome.{Outcome}
use Rattle.xc_data.specs.declared.entry.Outcome.TheVariants.{Committed, Aborted}
use Rattle.xc_world.specs.Ends.{Ending}
use Rattle.xc_world.specs.Fits.{late_answer_of}
use Rattle.xc_world.specs.Late.{late}
use Rattle.xc_world.specs.Run.{lates, late_asked_of}
use Rattle.xc_world.specs.World.{World}
use Rattle.xc_model.specs.Accounted.{Account, AreAccounted, AreLateEnds, CauseHolds, IsAccounted, IsLateEnd, account_of, own_part, own_scene, progress_before}
use Rattle.xc_model.specs.Asked.{lasts_of}
use Rattle.xc_model.specs.EntryEnds.{IsCauseOf, cause_in}
use Rattle.xc_model.specs.Grounds.{Part, AreGrounded, IsGrounded, scene_of}
use Rattle.xc_model.specs.Joint.{AreTrue, IsAskedFor, IsPlayedOutcome, IsTrueEntry, entry_parts, part_of, parts_from}
use Rattle.xc_model.specs.Live.{IsScripted}
use Rattle.xc_model.specs.Progress.{Progress, after_entry, body_of, opening_progress}
use Rattle.xc_model.specs.Recorded.{no_records, all_records, IsStuckIn, saved_records}
use Rattle.xc_model.specs.Setting.{Setting}
use Rattle.xc_model.specs.Truth.{IsTrueJournal}
use Rattle.xc_script.specs.declared.ask.Ask.{Ask}
use Rattle.xc_script.specs.declared.ask.Ask.TheVariants as ask
use Rattle.xc_turns.proofs.Ways.{joint_of_parts, lasts_are, parts_same}

-- ---- late calls
end_is : (w : World) (call : LateCall) (end : LateEnd) → (late w call (late_answer_of end)).end ≡ end → IsLateEnd w call end
end_is w call (late_end.Fault n) same = tt
end_is w call (late_end.NoMemory n) same = tt
end_is w call _ same = sym same

ends_are : (w : World) (calls : List LateCall) (ends : List LateEnd) → (lates w (late_asked_of calls ends)).ends ≡ ends → AreLateEnds w calls ends
ends_are w [] ends same = sym same
ends_are w (call ∷ calls) [] same = cc
ends_are w (call ∷ calls) (end ∷ ends) same =
    let here : (late w call (late_answer_of end)).end ≡ end = cc same in
    let rest : (lates (late w call (late_answer_of end)).world (late_asked_of calls ends)).ends ≡ ends = cc same in
    (end_is w call end here, ends_are (late w call (late_answer_of end)).world calls ends rest)

-- ---- one entry
module _ (a : Account) where
  -- its part's cause is grounded
  abbrev HasGround : Option Cause → Type 0
  HasGround c = IsGrounded (own_scene a) a.place (own_part a) c

  cause_accounts : (records : List Ending) (c : Cause) → IsCauseOf c a.next
      → IsStuckIn (saved_records (all_records no_records a.entry.calls a.entry.replies)) 1 records c → HasGround (Some c) → CauseHolds a records c
  cause_accounts records (cause.Stuck failed) caused stuck ground = (caused, stuck)
  cause_accounts records cause.Asked caused stuck ground = caused
  cause_accounts records (cause.Conflict object holder at) caused stuck ground = (caused, ground)
  cause_accounts records (cause.Revoked object by at) caused stuck ground = ground
  cause_accounts records cause.NoMemory caused stuck ground = tt

  outcome_accounts : (o : Outcome) → IsAskedFor a.setting.rules.undo_tries a.entry a.next o
      → (IsTrue a.setting.tells → IsPlayedOutcome a.before a.next a.entry o) → HasGround (cause_in o) → IsAccounted a o
  outcome_accounts (Committed ends) asked played ground =
      record {
        asked = asked.0;
        each = asked.1;
        late = λ tells. ends_are (body_of a.before.state a.entry).world (body_of a.before.state a.entry).late ends (played tells).ends;
      }
  outcome_accounts (Aborted report) asked played ground = cause_accounts report.records report.cause asked.0.asked asked.0.stuck ground

entry_accounts : (s : Setting) (journal : List Entry) (place : ℕ) (e : Entry)
    → IsTrueEntry s (progress_before s journal place) (account_of s journal place e).next e
    → HasGround (account_of s journal place e) (cause_in e.outcome) → IsAccounted (account_of s journal place e) e.outcome
entry_accounts s journal place e one ground =
    outcome_accounts (account_of s journal place e) e.outcome one.entry.story.asked (λ tells. (one.entry.played tells).outcome) ground

-- ---- the whole journal
true_there : (s : Setting) (p : Progress) (lasts : List Ask) (entries : List Entry) (place : ℕ) (e : Entry) → AreTrue s p lasts entries
    → slice_get entries place ≡ Some e → IsTrueEntry s (fold (after_entry s.script) p (take place entries)) (get_or lasts place ask.End) e
true_there s p lasts [] place e is there = cc
true_there s p [] (d ∷ entries) place e is there = absurd is
true_there s p (last ∷ lasts) (d ∷ entries) zero e is there = let same : d ≡ e = cc in subst (IsTrueEntry s p last) same is.0
true_there s p (last ∷ lasts) (d ∷ entries) (suc place) e is there = true_there s (after_entry s.script p d) lasts entries place e is.1 there

part_there : (s : Setting) (p : Progress) (lasts : List Ask) (entries : List Entry) (place : ℕ) (e : Entry) → AreTrue s p lasts entries
    → slice_get entries place ≡ Some e
    → slice_get (parts_from s p lasts entries) place
    ≡ Some (part_of (fold (after_entry s.script) p (take place entries)) (get_or lasts place ask.End) e)
part_there s p lasts [] place e is there = cc
part_there s p [] (d ∷ entries) place e is there = absurd is
part_there s p (last ∷ lasts) (d ∷ entries) zero e is there = let same : d ≡ e = cc in ap (λ x. Some (part_of p last x)) same
part_there s p (last ∷ lasts) (d ∷ entries) (suc place) e is there = part_there s (after_entry s.script p d) lasts entries place e is.1 there

-- each entry of a true journal is accounted for
pub journal_accounts : (s : Setting) (journal : List Entry) → IsScripted s.script → IsTrueJournal s journal → AreAccounted s journal
journal_accounts s journal own is place e there =
    let joint = joint_of_parts s journal is in
    let opening = opening_progress s.script in
    let lasts = lasts_of s.script journal in
    let same : joint.lasts ≡ lasts = lasts_are s joint.lasts journal own joint.entries in
    let entries : AreTrue s opening lasts journal = subst (λ xs. AreTrue s opening xs journal) same joint.entries in
    let grounded : AreGrounded (scene_of s.tells (entry_parts s lasts journal) []) =
    subst (λ xs. AreGrounded (scene_of s.tells (entry_parts s xs journal) [])) same joint.grounded in
    let part = own_part (account_of s journal place e) in
    let ground : IsGrounded (scene_of s.tells (entry_parts s lasts journal) []) place part part.cause =
    grounded.entries place part (part_there s opening lasts journal place e entries there) in
    entry_accounts s journal place e (true_there s opening lasts journal place e entries there)
    (subst (λ (ps : List Part). IsGrounded (scene_of s.tells ps []) place part part.cause) (parts_same s lasts journal) ground)
