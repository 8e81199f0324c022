-- Calls that are kept for the commit: one late call for each.
use Rattle.std.proofs.Common.{◌≡◌, ℕ, ◌+◌, ◌<◌, ◌≤◌, Bool, true, false, List, [], ◌∷◌, ◌++◌, length, refl, ap, ap₂, sym, ◌∙◌, subst, arith, length-append}
use Rattle.std.proofs.Common.{length-drop, map}
use Rattle.std.specs.Prelude.{◌||◌, not, drop, take, if◌then◌else◌}
use Rattle.std.specs.declared.option.Option.TheVariants.{None, Some}
use Rattle.std.specs.Prelude.{Option, unwrap_or}
use Rattle.std.proofs.Math.Seq.{take-length}
use Rattle.std.proofs.lemmas.List.{append-nil, length-map, map-append}
use Rattle.xc_data.specs.declared.call.Call.{Call}
use Rattle.xc_data.specs.declared.call.Call.TheVariants as call
use Rattle.xc_data.specs.declared.call.LateCall.{LateCall}
use Rattle.xc_data.specs.declared.call.LateEnd.{LateEnd}
use Rattle.xc_data.specs.declared.call.Reply.{Reply}
use Rattle.xc_data.specs.declared.call.Reply.TheVariants as reply
use Rattle.xc_data.specs.declared.private.Place.{Place}
use Rattle.xc_data.specs.declared.private.Place.TheVariants as place
use Rattle.xc_data.specs.declared.private.Private.{Private}
use Rattle.xc_data.specs.Private.{place_of}
use Rattle.xc_world.specs.World.{World}
use Rattle.xc_world.specs.Checks.{is_bad_handle, is_file, is_pipe, is_pair}
use Rattle.xc_world.specs.Act.Step.{Stepped, step_to}
use Rattle.xc_world.specs.Late.{kept_call}
use Rattle.xc_data.specs.Calls.{is_late, late_call, sync_of, write_pipe_of, shutdown_of, send_of, is_kept, thread_asked, thread_in}
use Rattle.xc_script.specs.Blocks.{KeptCalls, none_kept, kept_with, all_kept}
use Rattle.xc_model.specs.PlainSteps.{IsReplyInTime, saved_by}
use Rattle.xc_model.specs.Moment.{SavedView}
use Rattle.xc_model.specs.Stories.{AreKeptSo, AreKeptAtSave}
use Rattle.xc_world.specs.Fits.{is_back}

-- ---- one late call for each, which starts the same block
sync_one : (p : Place) → not (is_file p) ≡ false → map thread_in (sync_of p) ≡ None ∷ []
sync_one (place.File num at) good = refl
sync_one _ good = cc good

write_one : (p : Place) (bytes : List ℕ) → not (is_pipe p) ≡ false → map thread_in (write_pipe_of p bytes) ≡ None ∷ []
write_one (place.Pipe num) bytes good = refl
write_one _ bytes good = cc good

shutdown_one : (p : Place) → not (is_pipe p || is_pair p) ≡ false → map thread_in (shutdown_of p) ≡ None ∷ []
shutdown_one (place.Pipe num) good = refl
shutdown_one (place.Pair num side) good = refl
shutdown_one _ good = cc good

send_one : (p : Place) (bytes : List ℕ) → not (is_pair p) ≡ false → map thread_in (send_of p bytes) ≡ None ∷ []
send_one (place.Pair num side) bytes good = refl
send_one _ bytes good = cc good

waiting_one : (c : Call) (me : Private) → is_kept c ≡ true → is_bad_handle c me ≡ false → map thread_in (late_call c me) ≡ thread_asked c ∷ []
waiting_one (call.XUnlink name slot) me kept good = refl
waiting_one (call.XSync h slot) me kept good = sync_one (place_of me.places h) good
waiting_one (call.XWritePipe h bytes slot) me kept good = write_one (place_of me.places h) bytes good
waiting_one (call.XShutdown h slot) me kept good = shutdown_one (place_of me.places h) good
waiting_one (call.XSendmsg h bytes slot) me kept good = send_one (place_of me.places h) bytes good
waiting_one (call.XThreadCreate body slot) me kept good = refl
waiting_one _ me kept good = cc kept

passed : (b : Bool) (w : World) (me : Private) (s : Stepped) → is_late (if b then step_to w me reply.BadHandle else s).reply ≡ true → b ≡ false
passed true w me s late = cc late
passed false w me s late = refl

late_one : (w : World) (me : Private) (number : ℕ) (c : Call) (r : Reply) → IsReplyInTime me number c r → is_late r ≡ true
    → map thread_in (late_call c me) ≡ thread_asked c ∷ []
late_one w me number c r in_time late = by_test (is_kept c) refl
  where
    by_test : (b : Bool) → is_kept c ≡ b → map thread_in (late_call c me) ≡ thread_asked c ∷ []
    by_test true kept = waiting_one c me kept (passed (is_bad_handle c me) w me _ (ap is_late (sym (in_time.kept kept w)) ∙ late))
    by_test false now = let no : true ≡ false = sym late ∙ in_time.now now in cc no

kept_one : (me : Private) (c : Call) (r : Reply) → (is_late r ≡ true → map thread_in (late_call c me) ≡ thread_asked c ∷ [])
    → map thread_in (kept_call c me r) ≡ map thread_asked (if is_late r then c ∷ [] else [])
kept_one me c reply.Late one = one refl
kept_one me c _ one = refl

at_most_one : (b : Bool) (c : Call) → length (if b then c ∷ [] else []) ≤ 1
at_most_one true c = omega arith
at_most_one false c = omega arith

-- late calls that start what kept calls would are as many
pub late_as_many : (late : List LateCall) (kept : List Call) → map thread_in late ≡ map thread_asked kept → length late ≡ length kept
late_as_many late kept e = sym (length-map late thread_in) ∙ ap length e ∙ length-map kept thread_asked

-- a call leaves one late call at most
pub kept_few : (w : World) (me : Private) (number : ℕ) (c : Call) (r : Reply) → IsReplyInTime me number c r → length (kept_call c me r) ≤ 1
kept_few w me number c r in_time =
    omega (
      arith,
      late_as_many (kept_call c me r) (if is_late r then c ∷ [] else []) (kept_one me c r (late_one w me number c r in_time)),
      at_most_one
          (is_late r) c,
    )

-- one more call is kept where its reply says so, and a back drops those of its block
pub kept-more : (k : KeptCalls) (calls : List Call) (replies : List Reply) (c : Call) (r : Reply) → length calls ≡ length replies
    → all_kept k (calls ++ c ∷ []) (replies ++ r ∷ []) ≡ kept_with (all_kept k calls replies) c r
kept-more k [] [] c r e = refl
kept-more k [] (q ∷ replies) c r e = absurd (omega arith)
kept-more k (d ∷ calls) [] c r e = absurd (omega arith)
kept-more k (d ∷ calls) (q ∷ replies) c r e = kept-more (kept_with k d q) calls replies c r (omega arith)

pushed : (b : Bool) (kept : List Call) (c : Call) → (if b then kept ++ c ∷ [] else kept) ≡ kept ++ (if b then c ∷ [] else [])
pushed true kept c = refl
pushed false kept c = sym (append-nil kept)

no_call : (c : Call) (me : Private) (r : Reply) → late_call c me ≡ [] → kept_call c me r ≡ []
no_call c me reply.Late none = none
no_call c me _ none = refl

-- a call more starts what it would, where it makes no block
pub plain_more : (late more : List LateCall) (k : KeptCalls) (c : Call) (r : Reply) → map thread_in more ≡ map thread_asked (if is_late r then c ∷ [] else [])
    → map thread_in late ≡ map thread_asked k.kept
    → map thread_in (late ++ more) ≡ map thread_asked (if is_late r then k.kept ++ c ∷ [] else k.kept)
plain_more late more k c r one same =
    map-append thread_in late more ∙ ap₂ (λ m n. m ++ n) same one ∙ sym (map-append thread_asked k.kept (if is_late r then c ∷ [] else []))
    ∙ ap (map thread_asked) (sym (pushed (is_late r) k.kept c))

same_late : (late : List LateCall) (c : Call) (me : Private) (r : Reply) (kept : List Call) → late_call c me ≡ [] → map thread_in late ≡ map thread_asked kept
    → map thread_in (late ++ kept_call c me r) ≡ map thread_asked kept
same_late late c me r kept none same =
    ap (map thread_in) (ap (λ l. late ++ l) (no_call c me r none) ∙ append-nil late) ∙ same

-- by the call: one that doesn't go back
with_call : (w : World) (me : Private) (number : ℕ) (late : List LateCall) (saved : Option SavedView) (copy : SavedView) (k : KeptCalls) (c : Call) (r : Reply)
    → is_back c ≡ false → IsReplyInTime me number c r → copy.late ≡ late ++ kept_call c me r → AreKeptSo late saved k
    → AreKeptSo (late ++ kept_call c me r) (saved_by c saved copy) (kept_with k c r)
with_call w me number late saved copy k call.Save r ahead in_time is same =
    let now = same_late late call.Save me r k.kept refl same.0 in (now, ap (map thread_in) is ∙ now)
with_call w me number late saved copy k call.Keep r ahead in_time is same = (same_late late call.Keep me r k.kept refl same.0, tt)
with_call w me number late saved copy k call.Back r ahead in_time is same = cc ahead
with_call w me number late saved copy k c r ahead in_time is same =
    (plain_more late (kept_call c me r) k c r (kept_one me c r (late_one w me number c r in_time)) same.0, same.1)

-- late calls start what kept calls would, with one call more too
pub late-more : (w : World) (me : Private) (number : ℕ) (late : List LateCall) (saved : Option SavedView) (copy : SavedView) (calls : List Call)
    (replies : List Reply) (c : Call) (r : Reply)
    → is_back c ≡ false → IsReplyInTime me number c r → copy.late ≡ late ++ kept_call c me r → length calls ≡ length replies
    → AreKeptSo late saved (all_kept none_kept calls replies)
    → AreKeptSo (late ++ kept_call c me r) (saved_by c saved copy) (all_kept none_kept (calls ++ c ∷ []) (replies ++ r ∷ []))
late-more w me number late saved copy calls replies c r ahead in_time is each same =
    subst (AreKeptSo (late ++ kept_call c me r) (saved_by c saved copy)) (sym (kept-more none_kept calls replies c r each))
    (with_call w me number late saved copy (all_kept none_kept calls replies) c r ahead in_time is same)

-- after a back they are those of the save
pub back-more : (late : List LateCall) (kept : SavedView) (calls : List Call) (replies : List Reply) (r : Reply) → length calls ≡ length replies
    → AreKeptSo late (Some kept) (all_kept none_kept calls replies)
    → AreKeptSo kept.late None (all_kept none_kept (calls ++ call.Back ∷ []) (replies ++ r ∷ []))
back-more late kept calls replies r each same =
    subst (AreKeptSo kept.late None) (sym (kept-more none_kept calls replies call.Back r each))
    (by_saved (all_kept none_kept calls replies).saved refl same.1, tt)
  where
    by_saved : (o : Option (List Call)) → (all_kept none_kept calls replies).saved ≡ o → AreKeptAtSave (Some kept) (all_kept none_kept calls replies).saved
        → map thread_in kept.late ≡ map thread_asked (unwrap_or (all_kept none_kept calls replies).saved (all_kept none_kept calls replies).kept)
    by_saved None e so = absurd (subst (AreKeptAtSave (Some kept)) e so)
    by_saved (Some calls') e so =
        subst (AreKeptAtSave (Some kept)) e so
        ∙ ap (map thread_asked) (sym (ap (λ o. unwrap_or o (all_kept none_kept calls replies).kept) e))

-- ---- ends
-- where one is left there are fewer ends
pub left_some : (late : List LateCall) (ends : List LateEnd) (c : LateCall) (calls : List LateCall) → drop (length ends) late ≡ c ∷ calls
    → length ends < length late
left_some late ends c calls e = omega (arith, length-drop (length ends) late, ap length e)

-- one end more leaves one fewer
pub left_less : (late : List LateCall) (ends : List LateEnd) (end : LateEnd) → length ends < length late
    → length (drop (length (ends ++ end ∷ [])) late) < length (drop (length ends) late)
left_less late ends end some =
    omega (arith, length-drop (length ends) late, length-drop (length (ends ++ end ∷ [])) late, length-append ends (end ∷ []))

-- one late call more leaves one more at most
pub left_more : (late more : List LateCall) (n : ℕ) → length more ≤ 1 → length (drop n (late ++ more)) ≤ length (drop n late) + 1
left_more late more n one = omega (arith, length-drop n late, length-drop n (late ++ more), length-append late more)

-- where none is left each has its end
pub left_none : (late : List LateCall) (ends : List LateEnd) → length ends ≤ length late → drop (length ends) late ≡ [] → length ends ≡ length late
left_none late ends few none = omega (arith, length-drop (length ends) late, ap length none)

-- and the first of as many are all
pub take_all : (late : List LateCall) (n : ℕ) → n ≡ length late → take n late ≡ late
take_all late n all = ap (λ k. take k late) all ∙ take-length late
