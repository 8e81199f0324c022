-- Calls on names, as the plain machine does them.
use Rattle.std.proofs.Common.{◌≡◌, ℕ, ◌<◌, arith, true, false, Option, Some, None, Ok, Err}
use Rattle.std.proofs.Common.{List, refl, ap, sym, ◌∙◌, subst, if◌then◌else◌}
use Rattle.std.proofs.Math.Bool.{or-false}
use Rattle.std.proofs.lemmas.Bool.{lt-leb}
use Rattle.std.specs.Prelude.{Result, IfOk, is_some, not, ◌&&◌}
use Rattle.std.specs.FinMap as map
use Rattle.xc_data.specs.declared.object.Num.{Num}
use Rattle.xc_data.specs.declared.memory.NoMemory.{NoMemory}
use Rattle.xc_data.specs.declared.call.Call.TheVariants.{XCreate, XRename}
use Rattle.xc_data.specs.declared.call.Answer.{Answer}
use Rattle.xc_data.specs.declared.call.Answer.TheVariants as answer
use Rattle.xc_data.specs.declared.call.Reply.{Reply}
use Rattle.xc_data.specs.declared.call.Reply.TheVariants as reply
use Rattle.xc_data.specs.declared.private.Private.{Private}
use Rattle.xc_data.specs.Private.{lowest_vacant}
use Rattle.xc_world.specs.World.{World}
use Rattle.xc_world.specs.Act.{act, done}
use Rattle.xc_world.specs.Act.Step.{Stepped, step_to, bytes_counted}
use Rattle.xc_world.specs.Act.Names.{create_step, rename_step, next_num}
use Rattle.xc_world.specs.Checks.{has_made_all}
use Rattle.xc_host.specs.Contents.{Contents, with_contents, renamed_file}
use Rattle.xc_world.specs.After.{bytes_in}
use Rattle.xc_calls.specs.Calls.{ActsAsPlain, IsMePassed}
use Rattle.xc_calls.proofs.Laws.{call_view_at, much, much_none}
use Rattle.xc_file.specs.Naming.{Renames, Creates, IsFileMadeAt, with_file_made}

-- ---- a rename
-- its step, by what stands at both names
abbrev step_renamed : World → Private → List ℕ → List ℕ → Option Num × Option Num → Stepped
step_renamed w me from to found = bytes_counted (XRename from to) (rename_step w me from to found)

renamed_done : (w : World) (was : Contents) (me : Private) (from to : List ℕ) (o : Option Num) → is_some o ≡ true → o ≡ map.get was.names from
    → step_renamed (with_contents w was) me from to (o, None) ≡ step_to (with_contents w (renamed_file was from to o)) me reply.Done
renamed_done w was me from to None some e = cc
renamed_done w was me from to (Some num) some e = refl

renamed_exists : (w : World) (me : Private) (from to : List ℕ) (o p : Option Num) → is_some o ≡ true → is_some p ≡ true
    → step_renamed w me from to (o, p) ≡ step_to w me reply.Exists
renamed_exists w me from to None p some there = cc
renamed_exists w me from to (Some num) None some there = cc
renamed_exists w me from to (Some num) (Some other) some there = refl

-- a rename is the plain machine's
pub rename_acts : (was is : Contents) (number : ℕ) (me : Private) (from to : List ℕ) (r : Reply) → Renames was is from to r
    → ActsAsPlain (XRename from to) (call_view_at was number me) (call_view_at is number me) r
rename_acts was is number me from to reply.Done (same, named, absent) =
    record {
      step = λ w. ap (λ p. step_renamed (with_contents w was) me from to (map.get was.names from, p)) absent
          ∙ renamed_done w was me from to (map.get was.names from) named refl ∙ ap (λ c. step_to (with_contents w c) me reply.Done) (sym same);
      fits = λ w. refl;
    }
rename_acts was is number me from to reply.NoName (same, absent) =
    record {
      step = λ w. ap (λ o. step_renamed (with_contents w was) me from to (o, map.get was.names to)) absent
          ∙ ap (λ c. step_to (with_contents w c) me reply.NoName) (sym same);
      fits = λ w. refl;
    }
rename_acts was is number me from to reply.Exists (same, named, there) =
    record {
      step = λ w. renamed_exists (with_contents w was) me from to (map.get was.names from) (map.get was.names to) named there
          ∙ ap (λ c. step_to (with_contents w c) me reply.Exists) (sym same);
      fits = λ w. refl;
    }
rename_acts was is number me from to (reply.Fault n) (same, none) =
    subst (λ m. ActsAsPlain (XRename from to) (call_view_at was number me) (call_view_at is number me) (reply.Fault m)) (sym none)
    (record {
      step = λ w. ap (λ c. step_to (with_contents w c) me (reply.Fault 0)) (sym same);
      fits = λ w. refl;
    })
rename_acts was is number me from to _ never = absurd never

-- a rename leaves the private state
pub rename_me : (number : ℕ) (me : Private) (from to : List ℕ) (r : Reply) → bytes_in r ≡ 0 → IsMePassed number (XRename from to) me me r
rename_me number me from to r none = record { places = refl; made = refl; stored = omega (arith, none) }

-- ---- a create
-- a create that the checks let pass
passes : (w : World) (me : Private) (number : ℕ) (name : List ℕ) (answer : Answer) → much (has_made_all me) (lowest_vacant me.places) ≡ false
    → act w me number (XCreate name) answer ≡ bytes_counted (XCreate name) (done w me number (XCreate name) answer)
passes w me number name answer free =
    ap (λ b. if b then step_to w me reply.TooMuch else bytes_counted (XCreate name) (done w me number (XCreate name) answer)) free

-- its step, by what stands at the name and the lowest vacant handle
abbrev step_created : World → Private → ℕ → List ℕ → Option Num × Option ℕ → Stepped
step_created w me number name found = bytes_counted (XCreate name) (create_step w me number name found)

created_exists : (w : World) (me : Private) (number : ℕ) (name : List ℕ) (o : Option Num) (vacant : Option ℕ) → is_some o ≡ true
    → step_created w me number name (o, vacant) ≡ step_to w me reply.Exists
created_exists w me number name None vacant there = cc
created_exists w me number name (Some num) vacant there = refl

-- a create is the plain machine's
pub create_acts : (was is : Contents) (number : ℕ) (me : Private) (name : List ℕ) (h : ℕ) (r : Reply)
    → me.made < 16 → lowest_vacant me.places ≡ Some h → IsFileMadeAt h r → Creates was is name (next_num me number) r
    → ActsAsPlain (XCreate name) (call_view_at was number me) (call_view_at is number (with_file_made me h (next_num me number) r)) r
create_acts was is number me name h (reply.Made k) few vacant at (same, absent) =
    let next = with_file_made me h (next_num me number) (reply.Made h) in
    let free = much_none (has_made_all me) (lowest_vacant me.places) h (lt-leb 16 me.made few) vacant in
    subst (λ j. ActsAsPlain (XCreate name) (call_view_at was number me) (call_view_at is number next) (reply.Made j)) (sym at)
    (record {
      step = λ w. passes (with_contents w was) me number name answer.Fine free
          ∙ ap (λ o. step_created (with_contents w was) me number name (o, lowest_vacant me.places)) absent
          ∙ ap (λ v. step_created (with_contents w was) me number name (None, v)) vacant
          ∙ ap (λ c. step_to (with_contents w c) next (reply.Made h)) (sym same);
      fits = λ w. refl;
    })
create_acts was is number me name h reply.Exists few vacant at (same, named) =
    let free = much_none (has_made_all me) (lowest_vacant me.places) h (lt-leb 16 me.made few) vacant in
    record {
      step = λ w. passes (with_contents w was) me number name answer.Fine free
          ∙ created_exists (with_contents w was) me number name (map.get was.names name) (lowest_vacant me.places) named
          ∙ ap (λ c. step_to (with_contents w c) me reply.Exists) (sym same);
      fits = λ w. refl;
    }
create_acts was is number me name h (reply.Fault n) few vacant at (same, none) =
    let free = much_none (has_made_all me) (lowest_vacant me.places) h (lt-leb 16 me.made few) vacant in
    subst (λ m. ActsAsPlain (XCreate name) (call_view_at was number me) (call_view_at is number me) (reply.Fault m)) (sym none)
    (record {
      step = λ w. passes (with_contents w was) me number name (answer.Fault 0) free ∙ ap (λ c. step_to (with_contents w c) me (reply.Fault 0)) (sym same);
      fits = λ w. ap (λ b. not b && true) (or-false (much (has_made_all me) (lowest_vacant me.places)) ∙ free);
    })
create_acts was is number me name h _ few vacant at never = absurd never

-- the same, with a result that may want memory
pub created_acts : (was is : Contents) (number : ℕ) (me next : Private) (name : List ℕ) (h : ℕ) (result : Result Reply NoMemory)
    → me.made < 16 → lowest_vacant me.places ≡ Some h → IfOk result (IsFileMadeAt h)
    → IfOk result (λ r. next ≡ with_file_made me h (next_num me number) r) → IfOk result (Creates was is name (next_num me number))
    → IfOk result (ActsAsPlain (XCreate name) (call_view_at was number me) (call_view_at is number next))
created_acts was is number me next name h (Ok r) few vacant at same told =
    subst (λ m. ActsAsPlain (XCreate name) (call_view_at was number me) (call_view_at is number m) r) (sym same)
    (create_acts was is number me name h r few vacant at told)
created_acts was is number me next name h (Err e) few vacant at same told = tt

made_me : (number : ℕ) (me : Private) (name : List ℕ) (h : ℕ) (r : Reply) → lowest_vacant me.places ≡ Some h → IsFileMadeAt h r
    → IsMePassed number (XCreate name) me (with_file_made me h (next_num me number) r) r
made_me number me name h (reply.Made k) vacant at =
    subst (λ j. IsMePassed number (XCreate name) me (with_file_made me h (next_num me number) (reply.Made h)) (reply.Made j)) (sym at)
    (record { places = (vacant, refl); made = refl; stored = omega arith })
made_me number me name h (reply.Got bytes) vacant at = record { places = refl; made = refl; stored = omega (arith, at) }
made_me number me name h _ vacant at = record { places = refl; made = refl; stored = omega arith }

-- a create puts a new file at its handle
pub create_me : (number : ℕ) (me next : Private) (name : List ℕ) (h : ℕ) (result : Result Reply NoMemory) → lowest_vacant me.places ≡ Some h
    → IfOk result (IsFileMadeAt h) → IfOk result (λ r. next ≡ with_file_made me h (next_num me number) r)
    → IfOk result (IsMePassed number (XCreate name) me next)
create_me number me next name h (Ok r) vacant at same =
    subst (λ m. IsMePassed number (XCreate name) me m r) (sym same) (made_me number me name h r vacant at)
create_me number me next name h (Err e) vacant at same = tt
