-- Undoing all records of a body, the newest first, brings back the world of its begin.
use Rattle.std.proofs.Common.{◌≡◌, ℕ, true, false, List, [], ◌∷◌, ◌++◌, length, refl, ap, subst, sym, ◌∙◌, arith}
use Rattle.std.specs.Prelude.{IsTrue, ◌==◌, ◌&&◌, nat_lt, not, if◌then◌else◌}
use Rattle.std.specs.FinMap as map
use Rattle.std.proofs.lemmas.Bool.{and_parts, cond_both, ltb-true}
use Rattle.std.proofs.lemmas.List.{length-set}
use Rattle.xc_data.specs.declared.call.Call.{Call}
use Rattle.xc_data.specs.declared.call.Call.TheVariants as call
use Rattle.xc_data.specs.declared.call.Answer.{Answer}
use Rattle.xc_data.specs.declared.call.Answer.TheVariants as answer
use Rattle.xc_data.specs.declared.call.Reply.TheVariants as reply
use Rattle.xc_data.specs.declared.undo.Undo.{Undo}
use Rattle.xc_data.specs.declared.private.Place.{Place}
use Rattle.xc_data.specs.declared.private.Place.TheVariants.{Vacant, File, Pipe, Pair}
use Rattle.xc_data.specs.declared.private.Private.{Private}
use Rattle.xc_data.specs.Private.{place_of, lowest_vacant}
use Rattle.xc_world.specs.World.{World}
use Rattle.xc_world.specs.Sound.{IsFree, IsSound}
use Rattle.xc_world.specs.Act.Names.{next_num}
use Rattle.xc_world.specs.Checks.{is_bad_handle, is_too_big, is_too_much, is_bad_word, is_refused}
use Rattle.xc_data.specs.Calls.{bytes_of}
use Rattle.xc_world.specs.Act.Step.{Stepped, step_to, bytes_counted}
use Rattle.xc_world.specs.Act.{fine, faulty, done, act}
use Rattle.xc_world.specs.Fits.{fits, asks_host, may_stop, is_write, is_done}
use Rattle.xc_world.specs.Run.{BodyResult, step, after_calls, gone_back, opens, body, body_fits}
use Rattle.xc_data.specs.declared.call.CallWithAnswer.{CallWithAnswer}
use Rattle.xc_world.proofs.Blocks.{FitEach, Fits, fit_all, runs_keep}
use Rattle.xc_world.proofs.EffectsBody.{step_sound, back_sound}
use Rattle.xc_world.specs.Trail.{overwrite_record, append_record, recorded, undone, all_undone}
use Rattle.xc_world.specs.Undoing.{BroughtBack}
use Rattle.xc_world.proofs.UndoingParts.{same-back}
use Rattle.xc_world.proofs.UndoingCalls.{BringsBack, StopsBefore, as_is, overwrite_at-undoes, overwrite_short-undoes, append_at-undoes, append_short-undoes}
use Rattle.xc_world.proofs.UndoingCalls.{created-undoes, renamed-undoes, opened-undoes, read_at-undoes, seek_at-undoes, len_at-undoes, new_pipe-undoes}
use Rattle.xc_world.proofs.UndoingCalls.{new_pair-undoes, read_pipe_at-undoes, receive_at-undoes}

-- what a call with its reply records brings the world before it back
abbrev pub UndoesCall : World → Private → ℕ → Call → Stepped → Type 0
UndoesCall w me tx call s = BringsBack w s.world (recorded w me tx call s.reply)

-- ---- a call that is refused records nothing
overwrite_record-none : (w : World) (bytes : List ℕ) (p : Place) → overwrite_record w bytes 0 p ≡ []
overwrite_record-none w bytes (File num at) = refl
overwrite_record-none w bytes Vacant = refl
overwrite_record-none w bytes (Pipe num) = refl
overwrite_record-none w bytes (Pair num side) = refl

append_record-none : (w : World) (bytes : List ℕ) (p : Place) → append_record w bytes 0 p ≡ []
append_record-none w bytes (File num at) = refl
append_record-none w bytes Vacant = refl
append_record-none w bytes (Pipe num) = refl
append_record-none w bytes (Pair num side) = refl

-- a refused call records nothing
pub record NoneRecorded (w : World) (me : Private) (tx : ℕ) (c : Call) : Type 0 where
  pub bad_handle : recorded w me tx c reply.BadHandle ≡ []
  pub too_big : recorded w me tx c reply.TooBig ≡ []
  pub too_much : recorded w me tx c reply.TooMuch ≡ []
  pub bad_word : recorded w me tx c reply.BadWord ≡ []

-- a refused call has no record
pub refusal-none : (w : World) (me : Private) (tx : ℕ) (c : Call) → NoneRecorded w me tx c
refusal-none w me tx (call.XWriteOvr h bytes) =
    let e = overwrite_record-none w bytes (place_of me.places h) in
    record { bad_handle = e; too_big = e; too_much = e; bad_word = e }
refusal-none w me tx (call.XWriteSeq h bytes) =
    let e = append_record-none w bytes (place_of me.places h) in
    record { bad_handle = e; too_big = e; too_much = e; bad_word = e }
refusal-none w me tx _ = record { bad_handle = refl; too_big = refl; too_much = refl; bad_word = refl }

refused-undoes : (w : World) (us : List Undo) → us ≡ [] → BringsBack w w us
refused-undoes w us e = subst (BringsBack w w) (sym e) (as_is w)

-- ---- a call that passed the checks
-- the next number of a transaction is free
pub next_free : (w : World) (me : Private) (tx : ℕ) → IsSound w me tx → IsFree w (next_num me tx)
next_free w me tx sound = sound.new me.made (omega arith)

-- where the host does its part, and where it fails
fine-undoes : (w : World) (me : Private) (tx : ℕ) (c : Call) → IsSound w me tx → UndoesCall w me tx c (fine w me tx c)
fine-undoes w me tx (call.Load at) sound = as_is w
fine-undoes w me tx (call.Store at value) sound =
    λ v back. record {
      names = back.names;
      files = back.files;
      pipes = back.pipes;
      pairs = back.pairs;
      started = back.started;
      blocks = back.blocks;
      words = back.words ∙ length-set w.words at value;
    }
fine-undoes w me tx (call.XOpen name) sound = opened-undoes w me (map.get w.names name) (lowest_vacant me.places)
fine-undoes w me tx (call.XCreate name) sound =
    created-undoes w me tx name (map.get w.names name) (lowest_vacant me.places) refl (next_free w me tx sound)
fine-undoes w me tx (call.XRead h n) sound = read_at-undoes w me h n (place_of me.places h)
fine-undoes w me tx (call.XWriteOvr h bytes) sound = overwrite_at-undoes w me h bytes (place_of me.places h) (sound.handles h)
fine-undoes w me tx (call.XWriteSeq h bytes) sound = append_at-undoes w me h bytes (place_of me.places h) (sound.handles h)
fine-undoes w me tx (call.XSeek h to) sound = seek_at-undoes w me h to (place_of me.places h)
fine-undoes w me tx (call.XLen h) sound = len_at-undoes w me (place_of me.places h)
fine-undoes w me tx (call.XRename from to) sound =
    renamed-undoes w me from to (map.get w.names from) (map.get w.names to) refl refl
fine-undoes w me tx call.XPipe sound = new_pipe-undoes w me tx (lowest_vacant me.places) (next_free w me tx sound)
fine-undoes w me tx (call.XReadPipe h n) sound = read_pipe_at-undoes w me n (place_of me.places h) (sound.handles h)
fine-undoes w me tx call.XPair sound = new_pair-undoes w me tx (lowest_vacant me.places) (next_free w me tx sound)
fine-undoes w me tx (call.XRecvmsg h) sound = receive_at-undoes w me (place_of me.places h) (sound.handles h)
fine-undoes w me tx _ sound = as_is w

-- a fault after the first byte stops a write that would be done
pub stops : (w : World) (me : Private) (tx : ℕ) (c : Call) (n : ℕ) → IsTrue (fits w me tx c (answer.Fault n)) → (n == 0) ≡ false
    → StopsBefore n (bytes_of c) (fine w me tx c)
stops w me tx c n fit some =
    let fault = and_parts (not (is_refused c me (length w.words))) (if n == 0 then asks_host c else may_stop w me tx c n) fit in
    let stop : may_stop w me tx c n ≡ true = subst (λ b. (if b then asks_host c else may_stop w me tx c n) ≡ true) some fault.1 in
    let parts = and_parts (is_write c && is_done (fine w me tx c).reply) (nat_lt n (length (bytes_of c))) stop in
    record { would = (and_parts (is_write c) (is_done (fine w me tx c).reply) parts.0).1; before = ltb-true n (length (bytes_of c)) parts.1 }

faulty-undoes : (w : World) (me : Private) (tx : ℕ) (c : Call) (n : ℕ) → IsSound w me tx → IsTrue (fits w me tx c (answer.Fault n))
    → UndoesCall w me tx c (faulty w me c n)
faulty-undoes w me tx (call.XWriteOvr h bytes) n sound fit =
    overwrite_short-undoes w me h bytes n (place_of me.places h) (sound.handles h) (stops w me tx (call.XWriteOvr h bytes) n fit)
faulty-undoes w me tx (call.XWriteSeq h bytes) n sound fit = append_short-undoes w me h bytes n (place_of me.places h) (sound.handles h)
faulty-undoes w me tx _ n sound fit = as_is w

-- faults on a way back record nothing
pub undone-none : (w : World) (me : Private) (tx : ℕ) (c : Call) (n : ℕ) → recorded w me tx c (reply.Undone n) ≡ []
undone-none w me tx (call.XWriteOvr h bytes) n = overwrite_record-none w bytes (place_of me.places h)
undone-none w me tx (call.XWriteSeq h bytes) n = append_record-none w bytes (place_of me.places h)
undone-none w me tx _ n = refl

done-undoes : (w : World) (me : Private) (tx : ℕ) (c : Call) (a : Answer) → IsSound w me tx → IsTrue (fits w me tx c a)
    → UndoesCall w me tx c (done w me tx c a)
done-undoes w me tx c answer.Fine sound fit = fine-undoes w me tx c sound
done-undoes w me tx c (answer.Fault n) sound fit = faulty-undoes w me tx c n sound fit
done-undoes w me tx c (answer.Undone n) sound fit = refused-undoes w _ (undone-none w me tx c n)

-- a call is refused by a check, or is done
pub act-cases : (w : World) (me : Private) (tx : ℕ) (c : Call) (a : Answer) (P : Stepped → Type 0)
    → P (step_to w me reply.BadHandle) → P (step_to w me reply.TooBig) → P (step_to w me reply.TooMuch) → P (step_to w me reply.BadWord)
    → P (bytes_counted c (done w me tx c a)) → P (act w me tx c a)
act-cases w me tx c a P bad_handle too_big too_much bad_word passed =
    cond_both (is_bad_handle c me) _ _ P (λ _. bad_handle) (λ _.
    cond_both (is_too_big c) _ _ P (λ _. too_big) (λ _.
    cond_both (is_too_much c me) _ _ P (λ _. too_much) (λ _.
    cond_both (is_bad_word c (length w.words)) _ _ P (λ _. bad_word) (λ _. passed))))

act-undoes : (w : World) (me : Private) (tx : ℕ) (c : Call) (a : Answer) → IsSound w me tx → IsTrue (fits w me tx c a)
    → UndoesCall w me tx c (act w me tx c a)
act-undoes w me tx c a sound fit =
    let none = refusal-none w me tx c in
    act-cases w me tx c a (UndoesCall w me tx c) (refused-undoes w _ none.bad_handle) (refused-undoes w _ none.too_big)
    (refused-undoes w _ none.too_much) (refused-undoes w _ none.bad_word) (done-undoes w me tx c a sound fit)

-- ---- all calls of a body
-- the later records are undone first
all_undone-append : (w : World) (us vs : List Undo) → all_undone w (us ++ vs) ≡ all_undone (all_undone w vs) us
all_undone-append w [] vs = refl
all_undone-append w (u ∷ us) vs = ap (λ v. undone v u) (all_undone-append w us vs)

-- undone in what was brought back to a body's world, its records bring back its begin
pub record Rewinds (w : World) (tx : ℕ) (r : BodyResult) : Type 0 where
  pub sound : IsSound r.world r.me tx
  pub back : (v : World) → BroughtBack r.world v → BroughtBack w (all_undone v r.trail)

step_rewinds : (w : World) (tx : ℕ) (r : BodyResult) (c : CallWithAnswer) → Fits tx r c → Rewinds w tx r → Rewinds w tx (step tx r c)
step_rewinds w tx r c fit so =
    let us = recorded r.world r.me tx c.call (act r.world r.me tx c.call c.answer).reply in
    record {
      sound = step_sound tx r c fit so.sound;
      back = λ v brought. subst (BroughtBack w) (sym (all_undone-append v r.trail us))
          (so.back (all_undone v us) (act-undoes r.world r.me tx c.call c.answer so.sound fit v brought));
    }

back_rewinds : (w : World) (tx : ℕ) (s : BodyResult) (calls : List CallWithAnswer) → FitEach tx (Fits tx) s calls → Rewinds w tx s
    → Rewinds w tx (after_calls tx s calls) → Rewinds w tx (gone_back s (after_calls tx s calls))
back_rewinds w tx s calls fit was is = record { sound = back_sound tx s calls fit was.sound is.sound; back = was.back }

-- all records of a body undone bring its world back
pub body-undoes : (w : World) (me : Private) (tx : ℕ) (asked : List CallWithAnswer) → IsSound w me tx → IsTrue (body_fits w me tx asked)
    → BroughtBack w (all_undone (body w me tx asked).world (body w me tx asked).trail)
body-undoes w me tx asked sound fit =
    let r = body w me tx asked in
    (runs_keep tx (Fits tx) (Rewinds w tx) (record { plain = step_rewinds w tx; back = back_rewinds w tx }) (opens w me) asked
    (fit_all tx (opens w me) asked fit)
    (record { now = record { sound = sound; back = λ v brought. brought }; saved = tt })).now.back r.world (same-back r.world)
