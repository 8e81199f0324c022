-- Where one transaction's calls leave its handles, and which calls of the host they made: at its begin, after a call, and with its
-- block gone back.
use Rattle.std.proofs.Common.{◌≡◌, ℕ, ◌+◌, false, true, Option, Some, List, [], ◌∷◌, ◌++◌, length, refl, ap, sym, ◌∙◌, subst, arith, cond, append_assoc}
use Rattle.std.specs.Prelude.{All, drop, option_map, sum_by}
use Rattle.std.proofs.lemmas.List.{append-nil}
use Rattle.std.proofs.lemmas.List.Sums.{sum_by-append}
use Rattle.xc_data.specs.Faults.{undo_faults}
use Rattle.xc_data.specs.declared.call.Call.{Call}
use Rattle.xc_data.specs.declared.call.Call.TheVariants as call
use Rattle.xc_data.specs.declared.call.LateCall.{LateCall}
use Rattle.xc_data.specs.declared.call.LateEnd.{LateEnd}
use Rattle.xc_data.specs.declared.call.Reply.{Reply}
use Rattle.xc_data.specs.declared.call.Reply.TheVariants as reply
use Rattle.xc_data.specs.declared.claim.Claim.{Claim}
use Rattle.xc_data.specs.declared.private.Private.{Private}
use Rattle.xc_data.specs.declared.script.HostCallKind.{HostCallKind}
use Rattle.xc_data.specs.declared.undo.Undo.{Undo}
use Rattle.xc_data.specs.declared.undo.UndoEnd.{UndoEnd}
use Rattle.xc_host.specs.Cause.{counts_for, times}
use Rattle.xc_host.specs.Uses.{CallsOf, LatesFor}
use Rattle.xc_model.specs.Setting.{Setting}
use Rattle.xc_world.specs.After.{IsMeAfter}
use Rattle.xc_world.specs.Checks.{IsChecked, refusal_of}
use Rattle.xc_world.specs.Ends.{is_undone}
use Rattle.xc_world.specs.Fits.{is_back}
use Rattle.xc_world.specs.World.{beginning}
use Rattle.xc_model.specs.BackingRows.{backed}
use Rattle.xc_model.specs.Called.{BacksMake, LatesMake}
use Rattle.xc_model.specs.Handles.{Handled, IsHandled, HandlesCall, HandlesCalls, handled_anew, handled_back}
use Rattle.xc_model.specs.Handling.{HasMade, handled_in, handles_at_save}
use Rattle.xc_model.specs.IdleRows.{new_tx}
use Rattle.xc_model.specs.Moment.{TxView, SavedView, JobView}
use Rattle.xc_model.specs.PlainSteps.{Parts, copied, noting, noting_plain}
use Rattle.xc_model.specs.Saves.{saved_by}

-- ---- one call more
-- it follows those before it
calls_more : (tx : ℕ) (calls : List Call) (replies : List Reply) (c : Call) (r : Reply) (was now is : Handled) → length calls ≡ length replies
    → HandlesCalls tx calls replies was now → HandlesCall tx c r now is → HandlesCalls tx (calls ++ c ∷ []) (replies ++ r ∷ []) was is
calls_more tx [] [] c r was now is each h one = (is, subst (λ (x : Handled). HandlesCall tx c r x is) h one, refl)
calls_more tx [] (q ∷ replies) c r was now is each h one = absurd (omega (arith, each))
calls_more tx (d ∷ calls) [] c r was now is each h one = absurd h
calls_more tx (d ∷ calls) (q ∷ replies) c r was now is each h one =
    (h.0, h.1, calls_more tx calls replies c r h.0 now is (omega (arith, each)) h.2 one)

-- one that is no back
plain_call : (tx : ℕ) (c : Call) (r : Reply) (was is : Handled) → is_back c ≡ false → IsHandled tx c r was is → HandlesCall tx c r was is
plain_call tx call.Back r was is ahead h = cc ahead
plain_call tx c r was is ahead h = h

-- what a save keeps
saved_kept : (c : Call) (saved : Option SavedView) (copy : SavedView)
    → option_map handles_at_save (saved_by c saved copy) ≡ saved_by c (option_map handles_at_save saved) (handles_at_save copy)
saved_kept call.Save saved copy = refl
saved_kept call.Keep saved copy = refl
saved_kept call.Back saved copy = refl
saved_kept c saved copy = refl

-- a call is noted
pub called_handled : (tx : TxView) (c : Call) (r : Reply) (claims : List Claim) (parts : Parts) (was : Handled) (body more : List HostCallKind)
    → is_back c ≡ false → length tx.calls ≡ length tx.replies → IsChecked (refusal_of c tx.me) c r → IsMeAfter tx.number c r tx.me parts.me
    → CallsOf (refusal_of c tx.me) c r more → HandlesCalls tx.number tx.calls tx.replies was (handled_in tx body)
    → HandlesCalls tx.number (tx.calls ++ c ∷ []) (tx.replies ++ r ∷ []) was (handled_in (noting tx c r claims parts) (body ++ more))
called_handled tx c r claims parts was body more ahead each checked after uses h =
    let next = handled_in (noting tx c r claims parts) (body ++ more) in
    calls_more tx.number tx.calls tx.replies c r was (handled_in tx body) next each h
    (plain_call tx.number c r (handled_in tx body) next ahead
    (record {
      checked = checked;
      after = after;
      late = refl;
      saved = saved_kept c tx.saved (copied (noting_plain tx c r claims parts));
      uses = (more, uses, refl);
    }))

-- its block went back
pub backed_handled : (tx : TxView) (kept : SavedView) (was : Handled) (body backs : List HostCallKind) → tx.saved ≡ Some kept
    → length tx.calls ≡ length tx.replies → All (λ e. is_undone e.1 ≡ true) tx.undo.ended → BacksMake tx.undo.ended backs
    → HandlesCalls tx.number tx.calls tx.replies was (handled_in tx body)
    → HandlesCalls tx.number (tx.calls ++ call.Back ∷ []) (tx.replies ++ reply.Undone (sum_by undo_faults tx.undo.ended) ∷ []) was
    (handled_in (backed tx kept) (body ++ backs))
backed_handled tx kept was body backs opened each undone made h =
    let next = handled_in (backed tx kept) (body ++ backs) in
    calls_more tx.number tx.calls tx.replies call.Back (reply.Undone (sum_by undo_faults tx.undo.ended)) was (handled_in tx body) next each h
    (record {
      records = tx.undo.ended;
      undone = undone;
      faults = refl;
      made = backs;
      uses = made;
      behind = ap (λ (o : Option SavedView). handled_back (handled_in (record tx { saved = o }) body) backs) (sym opened);
    })

-- ---- a late call's end
-- that of the first call without one follows those before it
pub lates_more : (late : List LateCall) (ends : List LateEnd) (c : LateCall) (rest : List LateCall) (end : LateEnd) (lates more : List HostCallKind)
    → drop (length ends) late ≡ c ∷ rest → LatesMake late ends lates → LatesFor c end more → LatesMake late (ends ++ end ∷ []) (lates ++ more)
lates_more [] [] c rest end lates more is h one = cc is
lates_more (d ∷ late) [] c rest end lates more is h one =
    let same : c ≡ d = cc is in
    (more, [], subst (λ (x : LateCall). LatesFor x end more) same one, refl, ap (λ ks. ks ++ more) h ∙ sym (append-nil more))
lates_more [] (e ∷ ends) c rest end lates more is h one = absurd h
lates_more (d ∷ late) (e ∷ ends) c rest end lates more is (first, others, own, before, all) one =
    (first, others ++ more, own, lates_more late ends c rest end others more is before one, ap (λ ks. ks ++ more) all ∙ append_assoc first others more)

-- without an end they made none
pub no_ends_made : (late : List LateCall) (ends : List LateEnd) (lates : List HostCallKind) → ends ≡ [] → LatesMake late ends lates → lates ≡ []
no_ends_made late [] lates none h = h
no_ends_made late (e ∷ ends) lates none h = cc none

-- so whichever they are
pub other_lates : (late late' : List LateCall) (ends : List LateEnd) (lates : List HostCallKind) → ends ≡ [] → LatesMake late ends lates
    → LatesMake late' ends lates
other_lates late late' [] lates none h = h
other_lates late late' (e ∷ ends) lates none h = cc none

-- without a compensation there are none of it
pub no_backs : (ended : List (Undo × UndoEnd)) (backs : List HostCallKind) → ended ≡ [] → BacksMake ended backs → backs ≡ []
no_backs [] backs none h = h
no_backs (e ∷ ended) backs none h = cc none

-- ---- counts
-- calls, and others after them
pub times_append : (kind : HostCallKind) (made more : List HostCallKind) → times kind (made ++ more) ≡ times kind made + times kind more
times_append kind made more = sum_by-append (λ k. cond (counts_for kind k) 1 0) made more

-- four parts
pub parts_times : (kind : HostCallKind) (body stops backs lates : List HostCallKind)
    → times kind (body ++ stops ++ backs ++ lates) ≡ times kind body + times kind stops + times kind backs + times kind lates
parts_times kind body stops backs lates =
    let first = times_append kind (body ++ stops ++ backs) lates in
    let second = times_append kind (body ++ stops) backs in
    let third = times_append kind body stops in
    omega (arith, first, second, third)

-- ---- jobs
-- a transaction that has just begun made no call
pub begun_made : (s : Setting) (job : JobView) (number rank began : ℕ) (me : Private) → me ≡ beginning me.places → job.me ≡ me
    → HasMade s job (new_tx number rank began me) []
begun_made s job number rank began me fresh own =
    record {
      body = [];
      stops = [];
      backs = [];
      lates = [];
      calls = ap (λ (m : Private). handled_in (new_tx number rank began m) []) fresh
          ∙ ap (λ (m : Private). handled_anew m.places) (sym own);
      stopped = refl;
      undone = refl;
      ended = refl;
      all = refl;
    }
