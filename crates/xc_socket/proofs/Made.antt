-- A pair that is made, as the plain machine makes it, whatever is kept of others.
use Rattle.std.proofs.Common.{◌≡◌, ℕ, ◌<◌, ◌≤◌, ◌||◌, arith, true, false, Some, Ok, Err, List, refl, ap, sym, ◌∙◌}
use Rattle.std.proofs.Common.{subst, if◌then◌else◌}
use Rattle.std.proofs.Math.Bool.{or-false}
use Rattle.std.proofs.lemmas.Bool.{eq-eqb, le-leb, le-ltb, lt-leb, lt-ltb}
use Rattle.std.specs.Prelude.{Result, IfOk, not, ◌&&◌, count_by, nat_lt}
use Rattle.xc_data.specs.declared.object.Num.{Num}
use Rattle.xc_data.specs.declared.memory.NoMemory.{NoMemory}
use Rattle.xc_data.specs.declared.call.Call.TheVariants.{XPair}
use Rattle.xc_data.specs.declared.call.Answer.{Answer}
use Rattle.xc_data.specs.declared.call.Answer.TheVariants as answer
use Rattle.xc_data.specs.declared.call.Reply.{Reply}
use Rattle.xc_data.specs.declared.call.Reply.TheVariants as reply
use Rattle.xc_data.specs.declared.entry.KeptItem.{KeptItem}
use Rattle.xc_data.specs.declared.private.Place.TheVariants.{Pair}
use Rattle.xc_data.specs.declared.private.Private.{Private}
use Rattle.xc_data.specs.Private.{is_vacant, with_place}
use Rattle.xc_world.specs.World.{World, with_pair, empty_pair}
use Rattle.xc_world.specs.Act.{act, done}
use Rattle.xc_world.specs.Act.Step.{step_to, bytes_counted}
use Rattle.xc_world.specs.Act.Names.{next_num}
use Rattle.xc_world.specs.Act.Pipes.{new_pair, pair_made}
use Rattle.xc_world.specs.Checks.{is_too_much, refusal_of}
use Rattle.xc_world.specs.Replies.{may_reply}
use Rattle.xc_world.specs.RecordOf.{AreRecordsOf, left_by}
use Rattle.xc_world.specs.Trail.{pair_record}
use Rattle.xc_buffers.specs.Items.{keeps_pair}
use Rattle.xc_buffers.proofs.Laws.{pair_put}
use Rattle.xc_deferred.proofs.Laws.{world_with}
use Rattle.xc_host.specs.Contents.{Contents, with_contents}
use Rattle.xc_host.specs.Kept.{with_kept}
use Rattle.xc_host.specs.Pairs.{with_new_pair}
use Rattle.xc_calls.specs.Calls.{ActsAsPlain, IsMePassed}
use Rattle.xc_calls.proofs.Laws.{call_view_at, by_much}
use Rattle.xc_socket.specs.Making.{AreVacant, IsPairMadeAt, MakesPair, with_pair_made, pair_made_record}

-- ---- the checks
-- sixteen objects are made
pub all_made : (me : Private) → 16 ≤ me.made → refusal_of XPair me ≡ Some reply.TooMuch
all_made me le = ap (λ b. by_much (b || nat_lt (count_by is_vacant me.places) 2)) (le-leb 16 me.made le)

-- fewer than two handles are vacant
pub too_few : (me : Private) → me.made < 16 → count_by is_vacant me.places < 2 → refusal_of XPair me ≡ Some reply.TooMuch
too_few me few lt =
    ap (λ b. by_much (b || nat_lt (count_by is_vacant me.places) 2)) (lt-leb 16 me.made few) ∙ ap by_much (lt-ltb (count_by is_vacant me.places) 2 lt)

-- neither
pub room_for_pair : (me : Private) → me.made < 16 → 2 ≤ count_by is_vacant me.places → is_too_much XPair me ≡ false
room_for_pair me few two = ap (λ b. b || nat_lt (count_by is_vacant me.places) 2) (lt-leb 16 me.made few) ∙ le-ltb (count_by is_vacant me.places) 2 two

-- a call that the checks let pass
passes : (w : World) (me : Private) (number : ℕ) (answer : Answer) → is_too_much XPair me ≡ false
    → act w me number XPair answer ≡ bytes_counted XPair (done w me number XPair answer)
passes w me number answer free = ap (λ b. if b then step_to w me reply.TooMuch else bytes_counted XPair (done w me number XPair answer)) free

-- ---- the step
-- a new pair, in a world with kept items of others
new_there : (w : World) (c d : Contents) (num : Num) (items : List KeptItem) → keeps_pair num items ≡ false → d ≡ with_new_pair c num
    → with_pair (with_contents w (with_kept c items)) num empty_pair ≡ with_contents w (with_kept d items)
new_there w c d num items none did =
    ap (λ x. with_pair x num empty_pair) (world_with w c items) ∙ sym (pair_put (with_contents w c) items num empty_pair none)
    ∙ sym (world_with w (with_new_pair c num) items) ∙ ap (λ x. with_contents w (with_kept x items)) (sym did)

module _ (number : ℕ) (me : Private) (at : ℕ × ℕ) (vacant : AreVacant me (next_num me number) at) where
  -- the private state after it
  abbrev next : Reply → Private
  next r = with_pair_made me at (next_num me number) r

  pair_acts : (c d : Contents) (items : List KeptItem) (r : Reply) → is_too_much XPair me ≡ false → keeps_pair (next_num me number) items ≡ false
      → MakesPair (record { old = c; new = d }) (next_num me number) at r
      → ActsAsPlain XPair (call_view_at (with_kept c items) number me) (call_view_at (with_kept d items) number (next r)) r
  pair_acts c d items (reply.MadePair h g) free none (same, did) =
      let num = next_num me number in
      let one = with_place me at.0 (Pair num 0) in
      subst (λ (p : ℕ × ℕ). ActsAsPlain XPair (call_view_at (with_kept c items) number me) (call_view_at (with_kept d items) number (next (reply.MadePair h g)))
      (reply.MadePair p.0 p.1)) (sym same)
      (record {
        step = λ w.
            let x = with_contents w (with_kept c items) in
            passes x me number answer.Fine free ∙ ap (λ o. bytes_counted XPair (new_pair x me number o)) vacant.0
            ∙ ap (λ o. bytes_counted XPair (pair_made x one number at.0 o)) vacant.1
            ∙ ap (λ y. step_to y (next (reply.MadePair h g)) (reply.MadePair at.0 at.1)) (new_there w c d num items none did);
        fits = λ w. refl;
      })
  pair_acts c d items (reply.Fault n) free none (zero, same) =
      subst (λ m. ActsAsPlain XPair (call_view_at (with_kept c items) number me) (call_view_at (with_kept d items) number me) (reply.Fault m)) (sym zero)
      (record {
        step = λ w.
            passes (with_contents w (with_kept c items)) me number (answer.Fault 0) free
            ∙ ap (λ x. step_to (with_contents w (with_kept x items)) me (reply.Fault 0)) (sym same);
        fits = λ w. ap (λ b. not b && true) (or-false (is_too_much XPair me) ∙ free);
      })
  pair_acts c d items _ free none never = absurd never

  -- making a pair is the plain machine's step
  pub pair_made_acts : (c d : Contents) (items : List KeptItem) (new : Private) (result : Result Reply NoMemory) → is_too_much XPair me ≡ false
      → keeps_pair (next_num me number) items ≡ false → IfOk result (λ r. new ≡ next r)
      → IfOk result (MakesPair (record { old = c; new = d }) (next_num me number) at)
      → IfOk result (ActsAsPlain XPair (call_view_at (with_kept c items) number me) (call_view_at (with_kept d items) number new))
  pair_made_acts c d items new (Ok r) free none same told =
      subst (λ m. ActsAsPlain XPair (call_view_at (with_kept c items) number me) (call_view_at (with_kept d items) number m) r) (sym same)
      (pair_acts c d items r free none told)
  pair_made_acts c d items new (Err e) free none same told = tt

  me_of : (r : Reply) → IsPairMadeAt at r → IsMePassed number XPair me (next r) r
  me_of (reply.MadePair h g) same =
      subst (λ (p : ℕ × ℕ). IsMePassed number XPair me (next (reply.MadePair h g)) (reply.MadePair p.0 p.1)) (sym same)
      (record { places = (vacant.0, vacant.1, refl); made = refl; stored = omega arith })
  me_of (reply.Fault n) same = record { places = refl; made = refl; stored = omega arith }
  me_of _ never = absurd never

  -- the private state has its sides at their handles
  pub pair_made_me : (new : Private) (result : Result Reply NoMemory) → IfOk result (IsPairMadeAt at) → IfOk result (λ r. new ≡ next r)
      → IfOk result (IsMePassed number XPair me new)
  pair_made_me new (Ok r) made same = subst (λ m. IsMePassed number XPair me m r) (sym same) (me_of r made)
  pair_made_me new (Err e) made same = tt

-- ---- its reply, and its record
-- it is one that may come
passed_reply : (at : ℕ × ℕ) (r : Reply) → IsPairMadeAt at r → may_reply XPair r ≡ true
passed_reply at (reply.MadePair h g) same = refl
passed_reply at (reply.Fault n) same = eq-eqb n 0 same
passed_reply at _ never = absurd never

-- so where memory doesn't run out
pub pair_made_reply : (at : ℕ × ℕ) (result : Result Reply NoMemory) → IfOk result (IsPairMadeAt at) → IfOk result (λ r. may_reply XPair r ≡ true)
pair_made_reply at (Ok r) made = passed_reply at r made
pair_made_reply at (Err e) made = tt

-- its record is one of it
pub pair_made_kind : (me : Private) (number : ℕ) (r : Reply) → AreRecordsOf (left_by XPair r) (pair_made_record (next_num me number) r)
pair_made_kind me number (reply.MadePair h g) = (tt, refl)
pair_made_kind me number _ = refl

-- which is the plain machine's
pub pair_made_recorded : (me : Private) (number : ℕ) (r : Reply) → pair_made_record (next_num me number) r ≡ pair_record me number r
pair_made_recorded me number (reply.MadePair h g) = refl
pair_made_recorded me number _ = refl
