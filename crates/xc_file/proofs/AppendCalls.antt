-- An append, as its contract has it; where memory runs out, it did its part.
use Rattle.std.proofs.Common.{◌≡◌, ℕ, ◌<◌, ◌≤◌, ◌+◌, ◌++◌, Bool, true, false, IsTrue, None, Ok, Err, List, [], ◌∷◌, length}
use Rattle.std.proofs.Common.{ap, sym, ◌∙◌, inr, arith, if◌then◌else◌}
use Rattle.std.proofs.lemmas.Grind.{common_steps}
use Rattle.std.specs.Prelude.{Result, IfOk, OnErr, ◌==◌}
use Rattle.xc_data.specs.declared.memory.NoMemory.{NoMemory}
use Rattle.xc_data.specs.declared.object.Num.{Num}
use Rattle.xc_data.specs.declared.call.Call.{Call}
use Rattle.xc_data.specs.declared.call.Call.TheVariants.{XWriteSeq}
use Rattle.xc_data.specs.declared.call.Reply.{Reply}
use Rattle.xc_data.specs.declared.call.Reply.TheVariants.{Fault}
use Rattle.xc_data.specs.declared.call.Answer.TheVariants as answer
use Rattle.xc_data.specs.declared.private.Place.TheVariants.{File}
use Rattle.xc_data.specs.declared.private.Private.{Private}
use Rattle.xc_data.specs.declared.undo.Undo.{Undo}
use Rattle.xc_data.specs.declared.undo.Undo.TheVariants.{Append}
use Rattle.xc_data.specs.Private.{place_of}
use Rattle.xc_world.specs.World.{World}
use Rattle.xc_world.specs.Act.{act}
use Rattle.xc_world.specs.Checks.{refusal_of}
use Rattle.xc_world.specs.Act.Step.{step_to, storing}
use Rattle.xc_world.specs.Ends.{Ending}
use Rattle.xc_world.specs.Fits.{fits, answer_of}
use Rattle.xc_world.specs.Trail.{recorded, append_record}
use Rattle.xc_host.specs.Contents.{Contents, file_in, with_contents}
use Rattle.xc_host.specs.Model.{HostModel}
use Rattle.xc_compensate.specs.Records.{Records}
use Rattle.xc_file.specs.Appending.{Appends, StopsShort, appended_record}
use Rattle.xc_calls.specs.Calls.{CallState, CallView, ActsAsPlain, AreRecorded, DidPart, IsHostCall}
use Rattle.xc_calls.specs.Passing.{Passes}
use Rattle.xc_file.specs.declared.checks.OpenFile.{OpenFile}
use Rattle.xc_file.specs.Writing.{moved_on}
use Rattle.xc_calls.proofs.Laws.{call_view_at, RecordsGrow, replied_call, some_refusal}

-- the state after an append of n of the bytes, at the file's end
abbrev me_behind_append : Private → OpenFile → List ℕ → ℕ → Private
me_behind_append me file bytes n = storing (moved_on me file.h file.num file.at n) (length bytes)

-- a file that is open at a handle, at its end
abbrev at_end : Contents → ℕ → Num → OpenFile
at_end c h num = record { h = h; num = num; at = length (file_in c num) }

front_step : (was is : Contents) (number : ℕ) (me : Private) (h : ℕ) (num : Num) (at : ℕ) (bytes : List ℕ) (n : ℕ) (w : World)
    → length bytes ≤ 1024 → me.stored + length bytes ≤ 16384 → place_of me.places h ≡ File num at → 0 < length bytes
    → Appends was is num bytes (Fault n)
    → act (with_contents w was) me number (XWriteSeq h bytes) (answer.Fault n)
    ≡ step_to (with_contents w is) (me_behind_append me (at_end was h num) bytes n) (Fault n)
front_step was is number me h num at bytes n w big much there some did = grind (arith, common_steps)

front_fits : (was is : Contents) (number : ℕ) (me : Private) (h : ℕ) (num : Num) (at : ℕ) (bytes : List ℕ) (n : ℕ) (w : World)
    → length bytes ≤ 1024 → me.stored + length bytes ≤ 16384 → place_of me.places h ≡ File num at → 0 < length bytes
    → Appends was is num bytes (Fault n) → IsTrue (fits (with_contents w was) me number (XWriteSeq h bytes) (answer.Fault n))
front_fits was is number me h num at bytes n w big much there some did = grind (arith, common_steps)

-- a call that the plain machine does with a reply did its part
part_of : (call : Call) (was is : CallView) (made : List Undo) (r : Reply) → ActsAsPlain call was is r → AreRecorded call was made r
    → DidPart call was is.contents made
part_of call was is made r acts records = record {
  answer = answer_of r;
  fits = acts.fits;
  world = λ w. ap (λ s. s.world) (acts.step w);
  records = λ w. records w ∙ ap (recorded (with_contents w was.contents) was.me was.number call) (sym (ap (λ s. s.reply) (acts.step w)));
}

-- what a front did is a part
front_part : (was is : Contents) (number : ℕ) (me : Private) (h : ℕ) (num : Num) (at : ℕ) (bytes : List ℕ) (from n : ℕ)
    → (length bytes ≤ 1024) × (me.stored + length bytes ≤ 16384) → place_of me.places h ≡ File num at → 0 < length bytes
    → Appends was is num bytes (Fault n) → from ≡ length (file_in was num)
    → DidPart (XWriteSeq h bytes) (call_view_at was number me) is (appended_record num from bytes n)
front_part was is number me h num at bytes from n (big, much) there some did end =
    part_of (XWriteSeq h bytes) (call_view_at was number me) (call_view_at is number (me_behind_append me (at_end was h num) bytes n))
    (appended_record num from bytes n)
    (Fault n)
    (record {
      step = λ w. front_step was is number me h num at bytes n w big much there some did;
      fits = λ w. front_fits was is number me h num at bytes n w big much there some did;
    })
    (λ w. ap (λ k. appended_record num k bytes n) end ∙ ap (append_record (with_contents w was) bytes n) (sym there))

one_at_most : (b : Bool) (u : Undo) → length (if b then [] else u ∷ []) ≤ 1
one_at_most true u = omega arith
one_at_most false u = omega arith

-- an append that the checks let pass
pub append_call : {H : Type 0} (model : HostModel H) (h : ℕ) (bytes : List ℕ) (num : Num) (at : ℕ) (old new : CallState H) (result : Result Reply NoMemory)
    → refusal_of (XWriteSeq h bytes) old.me ≡ None → (length bytes ≤ 1024) × (old.me.stored + length bytes ≤ 16384)
    → place_of old.me.places h ≡ File num at → old.undo.ended ≡ []
    → Passes model (XWriteSeq h bytes) (record { old = old; new = new }) result → IfOk result (RecordsGrow model (XWriteSeq h bytes) old new)
    → OnErr result (StopsShort model num bytes (record { host = old.host; undo = old.undo }) (record { host = new.host; undo = new.undo }))
    → OnErr result (0 < length bytes)
    → IsHostCall model (XWriteSeq h bytes) old new result
append_call model h bytes num at old new (Ok r) free few there none passes grows stops some =
    replied_call model (XWriteSeq h bytes) old new r free passes grows
append_call model h bytes num at old new (Err e) free few there none passes grows stops some =
    let made = appended_record num stops.from bytes stops.done in
    record {
      checked = tt;
      unchanged = some_refusal (refusal_of (XWriteSeq h bytes) old.me) _ free;
      after = tt;
      uses = passes.uses;
      made = made;
      one = one_at_most (stops.done == 0) (Append num stops.from bytes stops.done);
      kinds = tt;
      undo = stops.undo ∙ ap (λ (rs : List Ending). let u : Records = record { pending = old.undo.pending ++ made; ended = rs } in u) (sym none);
      acts = λ _. tt;
      records = λ _. tt;
      cause = passes.cause;
      memory = record {
        me = passes.err;
        effect = λ t. inr (front_part (model.contents old.host) (model.contents new.host) old.number old.me h num at bytes stops.from stops.done few there some
            (stops.told t) (stops.end t));
        none = λ first. cc;
      };
    }
