-- A receipt, as the plain machine does it over what a host holds and what is kept in front.
use Rattle.std.proofs.Common.{◌≡◌, ℕ, ◌==◌, Bool, true, false, None, List, ◌∷◌, drop, length, unwrap_or, refl, ap, sym, ◌∙◌, if◌then◌else◌}
use Rattle.xc_data.specs.Private.{place_of}
use Rattle.xc_data.specs.declared.call.Answer.{Answer}
use Rattle.xc_data.specs.declared.call.Answer.TheVariants as answer
use Rattle.xc_data.specs.declared.call.Call.TheVariants.{XRecvmsg}
use Rattle.xc_data.specs.declared.call.Reply.{Reply}
use Rattle.xc_data.specs.declared.call.Reply.TheVariants as reply
use Rattle.xc_data.specs.declared.entry.KeptItem.TheVariants.{Message}
use Rattle.xc_data.specs.declared.object.Num.{Num}
use Rattle.xc_data.specs.declared.private.Place.TheVariants as place
use Rattle.xc_data.specs.declared.private.Private.{Private}
use Rattle.xc_maps.proofs.Laws.{get-insert_same, num_total, num_exact}
use Rattle.xc_world.specs.Act.{act, done}
use Rattle.xc_world.specs.Act.Pipes.{receive_at, received}
use Rattle.xc_world.specs.Act.Step.{bytes_counted, step_to, storing}
use Rattle.xc_world.specs.Checks.{is_bad_handle, is_too_big, is_too_much, refusal_of}
use Rattle.xc_world.specs.Run.{gives}
use Rattle.xc_world.specs.World.{World, Pair, empty_pair, pair_of, waiting, with_pair, with_waiting}
use Rattle.xc_buffers.proofs.Laws.{first_left, has_pair_kept}
use Rattle.xc_host.specs.Contents.{with_contents}
use Rattle.xc_calls.specs.Sides.{Sides, world_at, IsSame}
use Rattle.xc_calls.proofs.Laws.{first_none}
use Rattle.xc_socket.specs.Receiving.{HasNone, MessageLeaves}

-- a receipt that the checks let pass
receive_passes : (w : World) (me : Private) (number h : ℕ) (a : Answer) → refusal_of (XRecvmsg h) me ≡ None
    → act w me number (XRecvmsg h) a ≡ bytes_counted (XRecvmsg h) (done w me number (XRecvmsg h) a)
receive_passes w me number h a free =
    let call = XRecvmsg h in
    first_none (is_bad_handle call me) (is_too_big call) (is_too_much call me) w me (bytes_counted call (done w me number call a)) free

wait_again : (b : Bool) (q : Pair) (ms : List (List ℕ))
    → (let r = if b then record q { first = ms } else record q { second = ms } in if b then r.first else r.second) ≡ ms
wait_again true q ms = refl
wait_again false q ms = refl

-- a message that is given back waits first
waits_first : (y : World) (pair : Num) (side : ℕ) (message : List ℕ)
    → waiting (pair_of (gives y (Message pair side message)) pair) side ≡ message ∷ waiting (pair_of y pair) side
waits_first y pair side message =
    let q = pair_of y pair in
    let ms = message ∷ waiting q side in
    ap (λ o. waiting (unwrap_or o empty_pair) side) (get-insert_same num_total num_exact y.pairs pair (with_waiting q side ms))
    ∙ wait_again (side == 0) q ms

module _ (h : ℕ) (pair : Num) (side : ℕ) (me : Private) (number : ℕ) (at : place_of me.places h ≡ place.Pair pair side)
    (free : refusal_of (XRecvmsg h) me ≡ None) where
  -- its step, by what waits
  stepped : (x : World) → act x me number (XRecvmsg h) answer.Fine ≡ bytes_counted (XRecvmsg h) (received x me pair side (waiting (pair_of x pair) side))
  stepped x = receive_passes x me number h answer.Fine free ∙ ap (λ p. bytes_counted (XRecvmsg h) (receive_at x me p)) at

  -- ---- in worlds with what the host holds and what is kept
  module _ (old new : Sides) where
    -- a message is received
    pub pair_got_step : (message : List ℕ) → MessageLeaves pair side message (record { old = old; new = new }) → (w : World)
        → act (world_at w old) me number (XRecvmsg h) answer.Fine ≡ step_to (world_at w new) (storing me (length message)) (reply.Got message)
    pair_got_step message (leaves, there) w =
        let y = world_at w new in
        let x = gives y (Message pair side message) in
        let first = waits_first y pair side message in
        let left = first_left y pair side message (has_pair_kept (with_contents w new.contents) new.items pair there) in
        ap (λ v. act v me number (XRecvmsg h) answer.Fine) (leaves w) ∙ stepped x ∙ ap (λ ms. bytes_counted (XRecvmsg h) (received x me pair side ms)) first
        ∙ ap (λ ms. step_to (with_pair x pair (with_waiting (pair_of x pair) side ms)) (storing me (length message)) (reply.Got message))
        (sym (ap (λ ms. drop 1 ms) first))
        ∙ ap (λ v. step_to v (storing me (length message)) (reply.Got message)) (sym left)

    -- none waits
    pub pair_none_step : (r : Reply) (shut : Bool) → IsSame (record { old = old; new = new }) → HasNone pair side shut new
        → ((x : World) → bytes_counted (XRecvmsg h) (step_to x me (if shut then reply.End else reply.Empty)) ≡ step_to x me r) → (w : World)
        → act (world_at w old) me number (XRecvmsg h) answer.Fine ≡ step_to (world_at w new) me r
    pair_none_step r shut same none says w =
        let y = world_at w new in
        let (empty, mark) = none w in
        ap (λ v. act v me number (XRecvmsg h) answer.Fine) (same w) ∙ stepped y ∙ ap (λ ms. bytes_counted (XRecvmsg h) (received y me pair side ms)) empty
        ∙ ap (λ b. bytes_counted (XRecvmsg h) (step_to y me (if b then reply.End else reply.Empty))) mark ∙ says y

    -- the host failed
    pub pair_fault_step : IsSame (record { old = old; new = new }) → (w : World)
        → act (world_at w old) me number (XRecvmsg h) (answer.Fault 0) ≡ step_to (world_at w new) me (reply.Fault 0)
    pair_fault_step same w =
        receive_passes (world_at w old) me number h (answer.Fault 0) free ∙ ap (λ x. step_to x me (reply.Fault 0)) (same w)
