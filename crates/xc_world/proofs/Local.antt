-- What a call does depends on the objects that it touches alone, and it changes no other.
use Rattle.std.proofs.Common.{◌≡◌, ℕ, Bool, false, ◌||◌, List, [], ◌++◌, length, ap, sym, ◌∙◌, subst, refl}
use Rattle.std.specs.Prelude.{All, if◌then◌else◌}
use Rattle.xc_data.specs.declared.object.Object.{Object}
use Rattle.xc_data.specs.declared.call.Call.{Call}
use Rattle.xc_data.specs.declared.call.Answer.{Answer}
use Rattle.xc_data.specs.declared.call.Reply.TheVariants as reply
use Rattle.xc_data.specs.declared.private.Private.{Private}
use Rattle.xc_world.specs.World.{World}
use Rattle.xc_world.specs.Checks.{is_bad_handle, is_too_big, is_too_much, is_bad_word}
use Rattle.xc_world.specs.Act.{act, done}
use Rattle.xc_world.specs.Act.Step.{Stepped, storing_call, storing_reply, bytes_counted}
use Rattle.xc_world.specs.Touch.{touch, objects_of_call, made_by}
use Rattle.xc_world.specs.Laws.{AgreeAt, ActsAlike}
use Rattle.xc_world.proofs.LocalParts.{both_so}
use Rattle.xc_world.proofs.LocalCalls.{quiet_alike, done_alike}

counted_alike : (objects : List Object) (w v : World) (c : Call) (s t : Stepped) → ActsAlike objects w v s t
    → ActsAlike objects w v (bytes_counted c s) (bytes_counted c t)
counted_alike objects w v c s t alike =
    record {
      reply = alike.reply;
      me = ap (λ m. storing_reply s.reply (storing_call c m)) alike.me ∙ ap (λ r. storing_reply r (storing_call c t.me)) alike.reply;
      worlds = alike.worlds;
    }

-- what passed all checks touches its objects
passed : (a b c d : Bool) (objects : List Object) → a ≡ false → b ≡ false → c ≡ false → d ≡ false → (if a || b || c || d then [] else objects) ≡ objects
passed a b c d objects p q r s =
    ap (λ x. if x || b || c || d then [] else objects) p ∙ ap (λ x. if x || c || d then [] else objects) q ∙ ap (λ x. if x || d then [] else objects) r
    ∙ ap (λ x. if x then [] else objects) s

-- each object that is not in the list is as before, on both sides; the others agree afterwards
pub act_alike : (w v : World) (me : Private) (tx : ℕ) (c : Call) (a : Answer) → length w.words ≡ length v.words
    → All (AgreeAt w v) (touch c me (length w.words) ++ made_by c me tx)
    → ActsAlike (touch c me (length w.words) ++ made_by c me tx) w v (act w me tx c a) (act v me tx c a)
act_alike w v me tx c a count agree =
    let P = ActsAlike (touch c me (length w.words) ++ made_by c me tx) w v in
    both_so P (is_bad_handle c me) (is_bad_handle c me) _ _ _ _ refl (λ _. quiet_alike _ w v me reply.BadHandle agree) (λ handle.
    both_so P (is_too_big c) (is_too_big c) _ _ _ _ refl (λ _. quiet_alike _ w v me reply.TooBig agree) (λ size.
    both_so P (is_too_much c me) (is_too_much c me) _ _ _ _ refl (λ _. quiet_alike _ w v me reply.TooMuch agree) (λ few.
    both_so P (is_bad_word c (length w.words)) (is_bad_word c (length v.words)) _ _ _ _ (ap (is_bad_word c) count)
    (λ _. quiet_alike _ w v me reply.BadWord agree) (λ word.
    let e : touch c me (length w.words) ≡ objects_of_call c me =
    passed (is_bad_handle c me) (is_too_big c) (is_too_much c me) (is_bad_word c (length w.words)) (objects_of_call c me) handle size few word in
    subst (λ l. ActsAlike (l ++ made_by c me tx) w v (bytes_counted c (done w me tx c a)) (bytes_counted c (done v me tx c a))) (sym e)
    (counted_alike _ w v c (done w me tx c a) (done v me tx c a) (done_alike w v me tx c a (subst (λ l. All (AgreeAt w v) (l ++ made_by c me tx)) e agree)))))))

-- ---- what the agreement on an object that is made comes from: its number is free in both worlds
