-- A read of a pipe, as the plain machine does it over what a host holds and what is kept in front.
use Rattle.std.proofs.Common.{◌≡◌, ℕ, zero, suc, ◌<◌, ◌≤◌, ◌==◌, ◌⊎◌, inl, inr, Bool, true, false, None, List, [], ◌++◌}
use Rattle.std.proofs.Common.{length, take, drop, refl, ap, sym, ◌∙◌, arith, append-nil, length-append, unwrap_or, if◌then◌else◌}
use Rattle.std.proofs.Math.Dec.{eqb-suc-zero}
use Rattle.std.proofs.lemmas.Bool.{cases_lt}
use Rattle.std.proofs.lemmas.List.{take_at, drop_at, take_all, drop_all}
use Rattle.xc_data.specs.Private.{place_of}
use Rattle.xc_data.specs.declared.call.Answer.{Answer}
use Rattle.xc_data.specs.declared.call.Answer.TheVariants as answer
use Rattle.xc_data.specs.declared.call.Call.TheVariants.{XReadPipe}
use Rattle.xc_data.specs.declared.call.Reply.{Reply}
use Rattle.xc_data.specs.declared.call.Reply.TheVariants as reply
use Rattle.xc_data.specs.declared.entry.KeptItem.TheVariants.{Bytes}
use Rattle.xc_data.specs.declared.object.Num.{Num}
use Rattle.xc_data.specs.declared.private.Place.TheVariants as place
use Rattle.xc_data.specs.declared.private.Private.{Private}
use Rattle.xc_world.specs.Act.{act, done}
use Rattle.xc_world.specs.Act.Pipes.{empty_or_end, read_pipe_at, took}
use Rattle.xc_world.specs.Act.Step.{step_to, storing, bytes_counted}
use Rattle.xc_world.specs.Checks.{is_bad_handle, is_too_big, is_too_much, refusal_of}
use Rattle.xc_world.specs.Run.{gives, given_back}
use Rattle.xc_maps.proofs.Laws.{get-insert_same, num_total, num_exact}
use Rattle.xc_world.specs.World.{World, Pipe, empty_pipe, pipe_of, with_pipe}
use Rattle.xc_buffers.specs.Items.{kept_bytes}
use Rattle.xc_buffers.specs.Worlds.{with_front, without_front}
use Rattle.xc_buffers.proofs.Laws.{pipe_front, front_left, has_front}
use Rattle.xc_host.specs.Contents.{with_contents}
use Rattle.xc_host.specs.Pipes.{pipe_in}
use Rattle.xc_host.specs.declared.pipes.Took.TheVariants as taken
use Rattle.xc_pipe.specs.Reading.{ReadFinds, IsDrained, GivesSameWorld}
use Rattle.xc_calls.specs.Sides.{Sides, world_at}
use Rattle.xc_pipe.proofs.Takings.{back_some}
use Rattle.xc_calls.proofs.Laws.{first_none}

-- ---- the checks
-- a read that the checks let pass
read_passes : (w : World) (me : Private) (number h n : ℕ) (a : Answer) → refusal_of (XReadPipe h n) me ≡ None
    → act w me number (XReadPipe h n) a ≡ bytes_counted (XReadPipe h n) (done w me number (XReadPipe h n) a)
read_passes w me number h n a free =
    let call = XReadPipe h n in
    first_none (is_bad_handle call me) (is_too_big call) (is_too_much call me) w me (bytes_counted call (done w me number call a)) free

if_false : {T : Type 0} (b : Bool) (x y : T) → b ≡ false → (if b then x else y) ≡ y
if_false true x y e = cc
if_false false x y e = refl

if_true : {T : Type 0} (b : Bool) (x y : T) → b ≡ true → (if b then x else y) ≡ x
if_true true x y e = refl
if_true false x y e = cc

not_none : (n : ℕ) → 1 ≤ n → (n == 0) ≡ false
not_none zero some = absurd (omega (arith, some))
not_none (suc n) some = eqb-suc-zero n

-- ---- what the pipe has
-- the bytes that a world with kept items has in the pipe
held_is : (w : World) (s : Sides) (pipe : Num) → (pipe_of (world_at w s) pipe).held ≡ kept_bytes pipe s.items ++ (pipe_in s.contents pipe).held
held_is w s pipe = ap (λ (p : Pipe). p.held) (pipe_front (with_contents w s.contents) s.items pipe)

mark_is : (w : World) (s : Sides) (pipe : Num) → (pipe_of (world_at w s) pipe).shut ≡ (pipe_in s.contents pipe).shut
mark_is w s pipe = ap (λ (p : Pipe). p.shut) (pipe_front (with_contents w s.contents) s.items pipe)

drained : (w : World) (s : Sides) (pipe : Num) → IsDrained pipe s → (pipe_of (world_at w s) pipe).held ≡ []
drained w s pipe d = held_is w s pipe ∙ ap (λ bytes. bytes ++ (pipe_in s.contents pipe).held) d.kept ∙ d.held

-- the pipe with bytes that are given back
one_front : (y : World) (num : Num) (front : List ℕ) → pipe_of (gives y (Bytes num front)) num ≡ with_front front (pipe_of y num)
one_front y num front = ap (λ o. unwrap_or o empty_pipe) (get-insert_same num_total num_exact y.pipes num (with_front front (pipe_of y num)))

module _ (h n : ℕ) (pipe : Num) (me : Private) (number : ℕ) (at : place_of me.places h ≡ place.Pipe pipe) (free : refusal_of (XReadPipe h n) me ≡ None)
    (some : 1 ≤ n) where
  -- its step, by the place at the handle
  stepped_read : (x : World) → act x me number (XReadPipe h n) answer.Fine ≡ bytes_counted (XReadPipe h n) (read_pipe_at x me n (place.Pipe pipe))
  stepped_read x =
      read_passes x me number h n answer.Fine free ∙ ap (λ p. bytes_counted (XReadPipe h n) (read_pipe_at x me n p)) at

  none_read : (x : World) → (pipe_of x pipe).held ≡ [] → act x me number (XReadPipe h n) answer.Fine ≡ bytes_counted (XReadPipe h n)
      (step_to x me (empty_or_end (pipe_of x pipe)))
  none_read x none =
      stepped_read x ∙ ap (bytes_counted (XReadPipe h n)) (if_false (n == 0) _ _ (not_none n some)
      ∙ if_true (length (pipe_of x pipe).held == 0) _ _ (ap (λ (bytes : List ℕ). length bytes == 0) none))

  some_read : (x : World) → 1 ≤ length (pipe_of x pipe).held → act x me number (XReadPipe h n) answer.Fine ≡ bytes_counted (XReadPipe h n) (took x me pipe n)
  some_read x more =
      stepped_read x ∙ ap (bytes_counted (XReadPipe h n)) (if_false (n == 0) _ _ (not_none n some)
      ∙ if_false (length (pipe_of x pipe).held == 0) _ _ (not_none (length (pipe_of x pipe).held) more))

  -- a read that takes these bytes, and leaves this world
  took_read : (x y : World) (bytes rest : List ℕ) → 1 ≤ length bytes → (pipe_of x pipe).held ≡ bytes ++ rest → take n (bytes ++ rest) ≡ bytes
      → drop n (bytes ++ rest) ≡ rest → y ≡ without_front x pipe (length bytes)
      → act x me number (XReadPipe h n) answer.Fine ≡ step_to y (storing me (length bytes)) (reply.Got bytes)
  took_read x y bytes rest more held front behind left =
      let some_held : 1 ≤ length (pipe_of x pipe).held = omega (arith, ap (λ (xs : List ℕ). length xs) held, length-append bytes rest, more) in
      some_read x some_held
      ∙ ap (λ xs. bytes_counted (XReadPipe h n) (step_to (with_pipe x pipe (record (pipe_of x pipe) { held = drop n xs })) me (reply.Got (take n xs)))) held
      ∙ ap (λ xs. bytes_counted (XReadPipe h n)
      (step_to (with_pipe x pipe (record (pipe_of x pipe) { held = xs })) me (reply.Got (take n (bytes ++ rest))))) behind
      ∙ ap (λ xs. bytes_counted (XReadPipe h n) (step_to (with_pipe x pipe (record (pipe_of x pipe) { held = rest })) me (reply.Got xs))) front
      ∙ ap (λ v. step_to v (storing me (length bytes)) (reply.Got bytes)) (sym (left
      ∙ ap (λ xs. with_pipe x pipe (record (pipe_of x pipe) { held = drop (length bytes) xs })) held
      ∙ ap (λ xs. with_pipe x pipe (record (pipe_of x pipe) { held = xs })) (drop_at bytes rest (length bytes) refl)))

  -- ---- in worlds with what the host holds and what is kept
  module _ (old new : Sides) where
    -- some bytes are read
    pub pipe_got_step : (bytes : List ℕ) → 1 ≤ length bytes → length bytes ≤ n → ReadFinds pipe n [] (record { old = old; new = new }) (taken.Bytes bytes)
        → (w : World)
        → act (world_at w old) me number (XReadPipe h n) answer.Fine ≡ step_to (world_at w new) (storing me (length bytes)) (reply.Got bytes)
    pipe_got_step bytes more most (leads, there, all) w =
        let x = world_at w old in
        let y = world_at w new in
        let rest = (pipe_of y pipe).held in
        let back_is : x ≡ gives y (Bytes pipe bytes) = leads w ∙ ap (given_back y) (back_some pipe bytes more) in
        let fronted : (pipe_of x pipe).held ≡ bytes ++ rest = ap (λ v. (pipe_of v pipe).held) back_is ∙ ap (λ (p : Pipe). p.held) (one_front y pipe bytes) in
        let left : y ≡ without_front x pipe (length bytes) =
        front_left y pipe bytes (has_front (with_contents w new.contents) new.items pipe there) ∙ ap (λ v. without_front v pipe (length bytes)) (sym back_is) in
        let cut = by_size bytes rest (cases_lt (length bytes) n) most (λ less. drained w new pipe (all less)) in
        took_read x y bytes rest more fronted cut.0 cut.1 left
      where
        by_size : (bytes rest : List ℕ) → (length bytes < n) ⊎ (n ≤ length bytes) → length bytes ≤ n → (length bytes < n → rest ≡ [])
            → (take n (bytes ++ rest) ≡ bytes) × (drop n (bytes ++ rest) ≡ rest)
        by_size bytes rest (inr ge) most none = (take_at bytes rest n (omega (arith, ge, most)), drop_at bytes rest n (omega (arith, ge, most)))
        by_size bytes rest (inl lt) most none =
            let whole : bytes ++ rest ≡ bytes = ap (λ more. bytes ++ more) (none lt) ∙ append-nil bytes in
            (ap (take n) whole ∙ take_all n bytes most, ap (drop n) whole ∙ drop_all n bytes most ∙ sym (none lt))

    -- none is there
    pub pipe_none_step : (r : Reply) (mark : Bool) → GivesSameWorld pipe [] [] (record { old = old; new = new }) → IsDrained pipe new
        → (pipe_in new.contents pipe).shut ≡ mark
        → ((x : World) → (pipe_of x pipe).shut ≡ mark → bytes_counted (XReadPipe h n) (step_to x me (empty_or_end (pipe_of x pipe))) ≡ step_to x me r)
        → (w : World)
        → act (world_at w old) me number (XReadPipe h n) answer.Fine ≡ step_to (world_at w new) me r
    pipe_none_step r mark leads empty shut says w =
        ap (λ x. act x me number (XReadPipe h n) answer.Fine) (leads w)
        ∙ none_read (world_at w new) (drained w new pipe empty) ∙ says (world_at w new) (mark_is w new pipe ∙ shut)

    -- the host failed
    pub pipe_fault_step : GivesSameWorld pipe [] [] (record { old = old; new = new }) → (w : World)
        → act (world_at w old) me number (XReadPipe h n) (answer.Fault 0) ≡ step_to (world_at w new) me (reply.Fault 0)
    pipe_fault_step leads w =
        read_passes (world_at w old) me number h n (answer.Fault 0) free ∙ ap (λ x. step_to x me (reply.Fault 0)) (leads w)
