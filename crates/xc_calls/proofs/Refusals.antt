-- What the private checks say of a call, and what they leave of one that they refuse.
use Rattle.std.proofs.Common.{◌≡◌, ℕ, ◌||◌, Bool, true, false, Option, Some, None}
use Rattle.std.proofs.Common.{length, refl, ap, sym, subst, if◌then◌else◌}
use Rattle.std.specs.Prelude.{MatchOption, unwrap_or}
use Rattle.xc_data.specs.declared.call.Call.{Call}
use Rattle.xc_data.specs.declared.call.Call.TheVariants as call
use Rattle.xc_data.specs.declared.call.Answer.{Answer}
use Rattle.xc_data.specs.declared.call.Answer.TheVariants.{Fine}
use Rattle.xc_data.specs.declared.call.Reply.{Reply}
use Rattle.xc_data.specs.declared.call.Reply.TheVariants as reply
use Rattle.xc_data.specs.declared.private.Private.{Private}
use Rattle.xc_data.specs.Faults.{is_fault_reply}
use Rattle.xc_world.specs.World.{World}
use Rattle.xc_world.specs.Act.{act, done}
use Rattle.xc_world.specs.Act.Step.{Stepped, step_to, bytes_counted}
use Rattle.xc_world.specs.Checks.{is_bad_handle, is_too_big, is_too_much, is_bad_word, is_refused, refusal_of}
use Rattle.xc_world.specs.After.{ArePlaces, made_after}
use Rattle.xc_world.specs.Fits.{answer_of}
use Rattle.xc_world.specs.Trail.{done_of}
use Rattle.std.proofs.Common.{◌∙◌}
use Rattle.std.proofs.Math.Bool.{or-false}
use Rattle.std.specs.Prelude.{is_none}

-- the first of three checks that refuses
abbrev first_refused : Bool → Bool → Bool → Option Reply
first_refused bad big much =
    if bad then Some reply.BadHandle
    else if big then Some reply.TooBig
    else if much then Some reply.TooMuch
    else None

none_some : {T : Type 0} (x : T) → None ≡ Some x → ⊥
none_some x e = subst (λ o. MatchOption o (Unit {0}) (λ _. ⊥)) e tt

stays_so : (bad big much : Bool) (w : World) (me : Private) (other : Stepped) (r : Reply) → first_refused bad big much ≡ Some r
    → (if bad then step_to w me reply.BadHandle else if big then step_to w me reply.TooBig else if much then step_to w me reply.TooMuch else other)
    ≡ step_to w me r
stays_so true big much w me other r e = ap (λ o. step_to w me (unwrap_or o r)) e
stays_so false true much w me other r e = ap (λ o. step_to w me (unwrap_or o r)) e
stays_so false false true w me other r e = ap (λ o. step_to w me (unwrap_or o r)) e
stays_so false false false w me other r e = absurd (none_some r e)

-- a refused call leaves the plain machine as it was, with this reply
pub refused_acts : (w : World) (me : Private) (tx : ℕ) (call : Call) (answer : Answer) (r : Reply) → refusal_of call me ≡ Some r
    → act w me tx call answer ≡ step_to w me r
refused_acts w me tx call answer r e =
    stays_so (is_bad_handle call me) (is_too_big call) (is_too_much call me) w me
    (if is_bad_word call (length w.words) then step_to w me reply.BadWord else bytes_counted call (done w me tx call answer)) r e

none_of : (bad big much word : Bool) → first_refused bad big much ≡ None → (bad || big || much || word) ≡ word
none_of true big much word e = absurd (none_some reply.BadHandle (sym e))
none_of false true much word e = absurd (none_some reply.TooBig (sym e))
none_of false false true word e = absurd (none_some reply.TooMuch (sym e))
none_of false false false word e = refl

-- where none of them refuses a call, the plain machine's checks refuse a bad word alone
pub passed_checks : (me : Private) (call : Call) (words : ℕ) → refusal_of call me ≡ None → is_refused call me words ≡ is_bad_word call words
passed_checks me call words e = none_of (is_bad_handle call me) (is_too_big call) (is_too_much call me) (is_bad_word call words) e

-- a reply of a check is fine, no fault, and leaves no record and the private state
pub record IsCheckReply (r : Reply) : Type 0 where
  pub answer : answer_of r ≡ Fine
  pub fault : is_fault_reply r ≡ false
  pub done : (all : ℕ) → done_of all r ≡ 0
  pub places : (tx : ℕ) (call : Call) (me : Private) → ArePlaces tx call me r me.places
  pub made : (call : Call) (n : ℕ) → made_after call r n ≡ n

bad_places : (tx : ℕ) (call : Call) (me : Private) → ArePlaces tx call me reply.BadHandle me.places
bad_places tx (call.XOpen name) me = refl
bad_places tx _ me = refl

bad_made : (call : Call) (n : ℕ) → made_after call reply.BadHandle n ≡ n
bad_made (call.XOpen name) n = refl
bad_made _ n = refl

big_places : (tx : ℕ) (call : Call) (me : Private) → ArePlaces tx call me reply.TooBig me.places
big_places tx (call.XOpen name) me = refl
big_places tx _ me = refl

big_made : (call : Call) (n : ℕ) → made_after call reply.TooBig n ≡ n
big_made (call.XOpen name) n = refl
big_made _ n = refl

much_places : (tx : ℕ) (call : Call) (me : Private) → ArePlaces tx call me reply.TooMuch me.places
much_places tx (call.XOpen name) me = refl
much_places tx _ me = refl

much_made : (call : Call) (n : ℕ) → made_after call reply.TooMuch n ≡ n
much_made (call.XOpen name) n = refl
much_made _ n = refl

-- the first of the checks that refuses gives such a reply
pub plain_first : (bad big much : Bool) (r : Reply) → first_refused bad big much ≡ Some r → IsCheckReply r
plain_first true big much r e =
    subst (λ o. IsCheckReply (unwrap_or o r)) e (record { answer = refl; fault = refl; done = λ _. refl; places = bad_places; made = bad_made })
plain_first false true much r e =
    subst (λ o. IsCheckReply (unwrap_or o r)) e (record { answer = refl; fault = refl; done = λ _. refl; places = big_places; made = big_made })
plain_first false false true r e =
    subst (λ o. IsCheckReply (unwrap_or o r)) e (record { answer = refl; fault = refl; done = λ _. refl; places = much_places; made = much_made })
plain_first false false false r e = absurd (none_some r e)

-- what a check of a limit says
abbrev pub by_much : Bool → Option Reply
by_much is_much = if is_much then Some reply.TooMuch else None

-- the checks of a create, by whether all is made and by the lowest vacant handle
abbrev pub much : Bool → Option ℕ → Bool
much all vacant = all || is_none vacant

-- neither is so
pub much_none : (all : Bool) (vacant : Option ℕ) (h : ℕ) → all ≡ false → vacant ≡ Some h → much all vacant ≡ false
much_none all vacant h few there = ap (λ o. all || is_none o) there ∙ or-false all ∙ few

-- where none of the first three refuses, a step is the one after them
pub first_none : (bad big much : Bool) (w : World) (me : Private) (other : Stepped)
    → (if bad then Some reply.BadHandle else if big then Some reply.TooBig else if much then Some reply.TooMuch else None) ≡ None
    → (if bad then step_to w me reply.BadHandle else if big then step_to w me reply.TooBig else if much then step_to w me reply.TooMuch else other) ≡ other
first_none true big much w me other e = cc
first_none false true much w me other e = cc
first_none false false true w me other e = cc
first_none false false false w me other e = refl
