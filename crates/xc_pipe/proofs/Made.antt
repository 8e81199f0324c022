-- A pipe that is made, as the plain machine makes it, whatever is kept of others.
use Rattle.std.proofs.Common.{◌≡◌, ℕ, ◌<◌, arith, true, false, Some, Ok, Err, List, [], refl, ap, sym, ◌∙◌}
use Rattle.std.proofs.Common.{subst, if◌then◌else◌}
use Rattle.std.proofs.Math.Bool.{or-false}
use Rattle.std.proofs.lemmas.Bool.{eq-eqb, lt-leb}
use Rattle.std.specs.Prelude.{Result, IfOk, not, ◌&&◌}
use Rattle.xc_data.specs.declared.object.Num.{Num}
use Rattle.xc_data.specs.declared.memory.NoMemory.{NoMemory}
use Rattle.xc_data.specs.declared.call.Call.TheVariants.{XPipe}
use Rattle.xc_data.specs.declared.call.Answer.{Answer}
use Rattle.xc_data.specs.declared.call.Answer.TheVariants as answer
use Rattle.xc_data.specs.declared.call.Reply.{Reply}
use Rattle.xc_data.specs.declared.call.Reply.TheVariants as reply
use Rattle.xc_data.specs.declared.entry.KeptItem.{KeptItem}
use Rattle.xc_data.specs.declared.private.Private.{Private}
use Rattle.xc_data.specs.Private.{lowest_vacant}
use Rattle.xc_world.specs.World.{World, with_pipe, empty_pipe}
use Rattle.xc_world.specs.Act.{act, done}
use Rattle.xc_world.specs.Act.Step.{step_to, bytes_counted}
use Rattle.xc_world.specs.Act.Names.{next_num}
use Rattle.xc_world.specs.Act.Pipes.{new_pipe}
use Rattle.xc_world.specs.Checks.{has_made_all}
use Rattle.xc_world.specs.Replies.{may_reply}
use Rattle.xc_world.specs.RecordOf.{AreRecordsOf, left_by}
use Rattle.xc_world.specs.Trail.{pipe_record}
use Rattle.xc_buffers.specs.Items.{kept_bytes}
use Rattle.xc_buffers.proofs.Laws.{pipe_put}
use Rattle.xc_deferred.proofs.Laws.{world_with}
use Rattle.xc_host.specs.Contents.{Contents, with_contents}
use Rattle.xc_host.specs.Kept.{with_kept}
use Rattle.xc_host.specs.Pipes.{with_new_pipe}
use Rattle.xc_calls.specs.Calls.{ActsAsPlain, IsMePassed}
use Rattle.xc_calls.proofs.Laws.{call_view_at, much, much_none}
use Rattle.xc_pipe.specs.Making.{IsPipeMadeAt, MakesPipe, with_pipe_made, pipe_made_record}

-- a call that the checks let pass
passes : (w : World) (me : Private) (number : ℕ) (answer : Answer) → much (has_made_all me) (lowest_vacant me.places) ≡ false
    → act w me number XPipe answer ≡ bytes_counted XPipe (done w me number XPipe answer)
passes w me number answer free = ap (λ b. if b then step_to w me reply.TooMuch else bytes_counted XPipe (done w me number XPipe answer)) free

-- a new pipe, in a world with kept items of others
new_there : (w : World) (c d : Contents) (num : Num) (items : List KeptItem) → kept_bytes num items ≡ [] → d ≡ with_new_pipe c num
    → with_pipe (with_contents w (with_kept c items)) num empty_pipe ≡ with_contents w (with_kept d items)
new_there w c d num items none did =
    ap (λ x. with_pipe x num empty_pipe) (world_with w c items) ∙ sym (pipe_put (with_contents w c) items num empty_pipe none)
    ∙ sym (world_with w (with_new_pipe c num) items) ∙ ap (λ x. with_contents w (with_kept x items)) (sym did)

pipe_acts : (c d : Contents) (items : List KeptItem) (number : ℕ) (me : Private) (h : ℕ) (r : Reply) → me.made < 16 → lowest_vacant me.places ≡ Some h
    → kept_bytes (next_num me number) items ≡ [] → MakesPipe (record { old = c; new = d }) (next_num me number) h r
    → ActsAsPlain XPipe (call_view_at (with_kept c items) number me) (call_view_at (with_kept d items) number (with_pipe_made me h (next_num me number) r)) r
pipe_acts c d items number me h (reply.Made k) few vacant none (at, did) =
    let num = next_num me number in
    let next = with_pipe_made me h num (reply.Made h) in
    let free = much_none (has_made_all me) (lowest_vacant me.places) h (lt-leb 16 me.made few) vacant in
    subst (λ j. ActsAsPlain XPipe (call_view_at (with_kept c items) number me) (call_view_at (with_kept d items) number next) (reply.Made j)) (sym at)
    (record {
      step = λ w.
          let x = with_contents w (with_kept c items) in
          passes x me number answer.Fine free ∙ ap (λ v. bytes_counted XPipe (new_pipe x me number v)) vacant
          ∙ ap (λ y. step_to y next (reply.Made h)) (new_there w c d num items none did);
      fits = λ w. refl;
    })
pipe_acts c d items number me h (reply.Fault n) few vacant none (zero, same) =
    let free = much_none (has_made_all me) (lowest_vacant me.places) h (lt-leb 16 me.made few) vacant in
    subst (λ m. ActsAsPlain XPipe (call_view_at (with_kept c items) number me) (call_view_at (with_kept d items) number me) (reply.Fault m)) (sym zero)
    (record {
      step = λ w.
          passes (with_contents w (with_kept c items)) me number (answer.Fault 0) free
          ∙ ap (λ x. step_to (with_contents w (with_kept x items)) me (reply.Fault 0)) (sym same);
      fits = λ w. ap (λ b. not b && true) (or-false (much (has_made_all me) (lowest_vacant me.places)) ∙ free);
    })
pipe_acts c d items number me h _ few vacant none never = absurd never

-- making a pipe is the plain machine's step
pub pipe_made_acts : (c d : Contents) (items : List KeptItem) (number : ℕ) (me next : Private) (h : ℕ) (result : Result Reply NoMemory) → me.made < 16
    → lowest_vacant me.places ≡ Some h → kept_bytes (next_num me number) items ≡ []
    → IfOk result (λ r. next ≡ with_pipe_made me h (next_num me number) r)
    → IfOk result (MakesPipe (record { old = c; new = d }) (next_num me number) h)
    → IfOk result (ActsAsPlain XPipe (call_view_at (with_kept c items) number me) (call_view_at (with_kept d items) number next))
pipe_made_acts c d items number me next h (Ok r) few vacant none same told =
    subst (λ m. ActsAsPlain XPipe (call_view_at (with_kept c items) number me) (call_view_at (with_kept d items) number m) r) (sym same)
    (pipe_acts c d items number me h r few vacant none told)
pipe_made_acts c d items number me next h (Err e) few vacant none same told = tt

-- its reply is one that may come
passed_reply : (h : ℕ) (r : Reply) → IsPipeMadeAt h r → may_reply XPipe r ≡ true
passed_reply h (reply.Made k) at = refl
passed_reply h (reply.Fault n) at = eq-eqb n 0 at
passed_reply h _ never = absurd never

-- so where memory doesn't run out
pub pipe_made_reply : (h : ℕ) (result : Result Reply NoMemory) → IfOk result (IsPipeMadeAt h) → IfOk result (λ r. may_reply XPipe r ≡ true)
pipe_made_reply h (Ok r) at = passed_reply h r at
pipe_made_reply h (Err e) at = tt

me_of : (number : ℕ) (me : Private) (h : ℕ) (r : Reply) → lowest_vacant me.places ≡ Some h → IsPipeMadeAt h r
    → IsMePassed number XPipe me (with_pipe_made me h (next_num me number) r) r
me_of number me h (reply.Made k) vacant at =
    subst (λ j. IsMePassed number XPipe me (with_pipe_made me h (next_num me number) (reply.Made h)) (reply.Made j)) (sym at)
    (record { places = (vacant, refl); made = refl; stored = omega arith })
me_of number me h (reply.Fault n) vacant at = record { places = refl; made = refl; stored = omega arith }
me_of number me h _ vacant never = absurd never

-- the private state has the new pipe at its handle
pub pipe_made_me : (number : ℕ) (me next : Private) (h : ℕ) (result : Result Reply NoMemory) → lowest_vacant me.places ≡ Some h
    → IfOk result (IsPipeMadeAt h) → IfOk result (λ r. next ≡ with_pipe_made me h (next_num me number) r)
    → IfOk result (IsMePassed number XPipe me next)
pipe_made_me number me next h (Ok r) vacant at same = subst (λ m. IsMePassed number XPipe me m r) (sym same) (me_of number me h r vacant at)
pipe_made_me number me next h (Err e) vacant at same = tt

-- its record is one of it
pub pipe_made_kind : (me : Private) (number : ℕ) (r : Reply) → AreRecordsOf (left_by XPipe r) (pipe_made_record (next_num me number) r)
pipe_made_kind me number (reply.Made h) = (tt, refl)
pipe_made_kind me number _ = refl

-- which is the plain machine's
pub pipe_made_recorded : (me : Private) (number : ℕ) (r : Reply) → pipe_made_record (next_num me number) r ≡ pipe_record me number r
pipe_made_recorded me number (reply.Made h) = refl
pipe_made_recorded me number _ = refl
