-- A body and late calls that are run again: one call more, and all of them.
use Rattle.std.proofs.Common.{◌≡◌, ℕ, ◌<◌, zero, suc, List, [], ◌∷◌, ◌++◌, length, get_or, ◌≤◌, take, sym, ap, subst, ◌∙◌, refl, arith, append_assoc}
use Rattle.std.specs.Prelude.{All, IfSome, IsTrue, Option}
use Rattle.std.specs.declared.option.Option.TheVariants.{Some}
use Rattle.std.proofs.lemmas.Bool.{and_parts, and_from}
use Rattle.std.proofs.lemmas.List.{append-nil, take_all}
use Rattle.std.proofs.lemmas.List.Elements.{All-head, All-tail}
use Rattle.xc_data.specs.declared.call.Call.{Call}
use Rattle.xc_data.specs.declared.call.CallWithAnswer.{CallWithAnswer}
use Rattle.xc_data.specs.declared.call.Reply.{Reply}
use Rattle.xc_data.specs.declared.call.LateAnswer.{LateAnswer}
use Rattle.xc_data.specs.declared.call.LateCall.{LateCall}
use Rattle.xc_data.specs.declared.call.LateEnd.{LateEnd}
use Rattle.xc_data.specs.declared.private.Private.{Private}
use Rattle.xc_world.specs.World.{World}
use Rattle.xc_world.specs.Act.{act}
use Rattle.xc_world.specs.Fits.{fits, late_fits, answer_of, late_answer_of}
use Rattle.xc_world.specs.Late.{late}
use Rattle.xc_world.specs.Run.{BlockState, step, block_step, runs_on, fits_on, opens, asked_of, body, body_fits, lates, lates_fit, late_asked_of}
use Rattle.xc_world.specs.Sound.{IsFit, IsReady, IsShortCall, IsSound}
use Rattle.xc_world.proofs.Laws.{marked_replies, late_keeps_others, late_keeps_ready, late_fit, late_sound}
use Rattle.xc_machine.specs.Replay.{IsReplayed, AreReplayed, AreReplayedOn, told, IsEnded, AreEnded, led_by}

-- a fact of what is there, of what it is
pub if_some : {A : Type 0} {o : Option A} (P : A → Type 0) (x : A) → o ≡ Some x → IfSome o P → P x
if_some P x e h = subst (λ o. IfSome o P) e h

-- there are as many answers as calls
pub asked_length : (calls : List Call) (replies : List Reply) → length (asked_of calls replies) ≡ length calls
asked_length [] replies = refl
asked_length (call ∷ calls) [] = ap suc (asked_length calls [])
asked_length (call ∷ calls) (reply ∷ replies) = ap suc (asked_length calls replies)

-- a call with its reply stands where both do
pub asked_stands : (calls : List Call) (replies : List Reply) (i : ℕ) (call : Call) (reply : Reply) → i < length calls → i < length replies
    → call ≡ get_or calls i call → reply ≡ get_or replies i reply → told call reply ≡ get_or (asked_of calls replies) i (told call reply)
asked_stands [] replies i call reply lt few e f = absurd (omega (arith, lt))
asked_stands (c ∷ calls) [] i call reply lt few e f = absurd (omega (arith, few))
asked_stands (c ∷ calls) (r ∷ replies) zero call reply lt few e f = λ k. told (e k) (f k)
asked_stands (c ∷ calls) (r ∷ replies) (suc i) call reply lt few e f = asked_stands calls replies i call reply (omega (arith, lt)) (omega (arith, few)) e f

-- all of them were asked behind the last call
pub asked_all : (calls : List Call) (replies : List Reply) (i : ℕ) → length calls ≤ i
    → take i (asked_of calls replies) ≡ asked_of calls replies
asked_all calls replies i le =
    take_all i (asked_of calls replies) (subst (λ n. n ≤ i) (sym (asked_length calls replies)) le)

-- each call has its reply
pub replies_as_many : (tx : ℕ) (b : BlockState) (calls : List Call) (replies : List Reply) → AreReplayedOn tx b calls replies
    → length calls ≡ length replies
replies_as_many tx b [] replies h = sym (ap length h)
replies_as_many tx b (c ∷ calls) [] h = absurd h
replies_as_many tx b (c ∷ calls) (reply ∷ replies) h = ap suc (replies_as_many tx (block_step tx b (told c reply)) calls replies h.1)

-- where those that are left are replayed, so is the next one, and those behind it
pub replayed_next : (tx : ℕ) (b : BlockState) (c : Call) (reply : Reply) (xs calls : List Call) (ys replies : List Reply) → xs ≡ c ∷ calls
    → ys ≡ reply ∷ replies
    → AreReplayedOn tx b xs ys
    → IsReplayed b.now.world b.now.me tx c reply × AreReplayedOn tx (block_step tx b (told c reply)) calls replies
replayed_next tx b c reply xs calls ys replies p q h = subst (λ z. AreReplayedOn tx b z (reply ∷ replies)) p (subst (λ z. AreReplayedOn tx b xs z) q h)

-- and the other way round
pub replayed_back : (tx : ℕ) (b : BlockState) (c : Call) (reply : Reply) (xs calls : List Call) (ys replies : List Reply) → xs ≡ c ∷ calls
    → ys ≡ reply ∷ replies
    → IsReplayed b.now.world b.now.me tx c reply → AreReplayedOn tx (block_step tx b (told c reply)) calls replies → AreReplayedOn tx b xs ys
replayed_back tx b c reply xs calls ys replies p q one rest =
    subst (λ z. AreReplayedOn tx b xs z) (sym q) (subst (λ z. AreReplayedOn tx b z (reply ∷ replies)) (sym p) (one, rest))

-- ---- what is replayed
-- the replies of calls one after another
abbrev replies_given : ℕ → BlockState → List CallWithAnswer → List Reply
replies_given tx b [] = []
replies_given tx b (c ∷ asked) = (act b.now.world b.now.me tx c.call c.answer).reply ∷ replies_given tx (block_step tx b c) asked

-- they come behind those before
given_behind : (tx : ℕ) (b : BlockState) (asked : List CallWithAnswer) → (runs_on tx b asked).now.replies ≡ b.now.replies ++ replies_given tx b asked
given_behind tx b [] = sym (append-nil b.now.replies)
given_behind tx b (c ∷ asked) =
    let one = (act b.now.world b.now.me tx c.call c.answer).reply in
    let rest = replies_given tx (block_step tx b c) asked in
    given_behind tx (block_step tx b c) asked
    ∙ ap (λ rs. rs ++ rest) (marked_replies c.call b.saved (step tx b.now c))
    ∙ append_assoc b.now.replies (one ∷ []) rest

first_is : {A : Type 0} (x y : A) (xs ys : List A) → x ∷ xs ≡ y ∷ ys → x ≡ y
first_is x y xs ys e = cc

none_is : {A : Type 0} {x : A} {xs : List A} → x ∷ xs ≡ [] → ⊥
none_is e = cc

rest_is : {A : Type 0} (x y : A) (xs ys : List A) → x ∷ xs ≡ y ∷ ys → xs ≡ ys
rest_is x y xs ys e = cc

to_given : (tx : ℕ) (b : BlockState) (calls : List Call) (replies : List Reply) → AreReplayedOn tx b calls replies
    → IsTrue (fits_on tx b (asked_of calls replies)) × (replies_given tx b (asked_of calls replies) ≡ replies)
to_given tx b [] replies h = (refl, sym h)
to_given tx b (c ∷ calls) [] h = absurd h
to_given tx b (c ∷ calls) (reply ∷ replies) h =
    let asked = asked_of calls replies in
    let after = block_step tx b (told c reply) in
    let rest = to_given tx after calls replies h.1 in (
      and_from (fits b.now.world b.now.me tx c (answer_of reply)) (fits_on tx after asked) h.0.fits rest.0,
      ap (λ r. r ∷ replies_given tx after asked) h.0.gives ∙ ap (λ rs. reply ∷ rs) rest.1,
    )

from_given : (tx : ℕ) (b : BlockState) (calls : List Call) (replies : List Reply)
    → IsTrue (fits_on tx b (asked_of calls replies)) × (replies_given tx b (asked_of calls replies) ≡ replies) → AreReplayedOn tx b calls replies
from_given tx b [] replies h = sym h.1
from_given tx b (c ∷ calls) [] h = absurd (none_is h.1)
from_given tx b (c ∷ calls) (reply ∷ replies) h =
    let asked = asked_of calls replies in
    let after = block_step tx b (told c reply) in
    let one = (act b.now.world b.now.me tx c (answer_of reply)).reply in
    let fit = and_parts (fits b.now.world b.now.me tx c (answer_of reply)) (fits_on tx after asked) h.0 in (
      record { fits = fit.0; gives = first_is one reply (replies_given tx after asked) replies h.1 },
      from_given tx after calls replies (fit.1, rest_is one reply (replies_given tx after asked) replies h.1),
    )

-- what is replayed fits, and gives these replies
pub to_body : (w : World) (me : Private) (tx : ℕ) (calls : List Call) (replies : List Reply) → AreReplayed w me tx calls replies
    → IsTrue (body_fits w me tx (asked_of calls replies)) × ((body w me tx (asked_of calls replies)).replies ≡ replies)
to_body w me tx calls replies h =
    let both = to_given tx (opens w me) calls replies h in
    (both.0, given_behind tx (opens w me) (asked_of calls replies) ∙ both.1)

-- what fits and gives these replies is replayed
pub from_body : (w : World) (me : Private) (tx : ℕ) (calls : List Call) (replies : List Reply)
    → IsTrue (body_fits w me tx (asked_of calls replies)) × ((body w me tx (asked_of calls replies)).replies ≡ replies)
    → AreReplayed w me tx calls replies
from_body w me tx calls replies h =
    from_given tx (opens w me) calls replies (h.0, sym (given_behind tx (opens w me) (asked_of calls replies)) ∙ h.1)

-- ---- late calls
-- each late call has its end
pub as_many_ends : (w : World) (calls : List LateCall) (ends : List LateEnd) → AreEnded w calls ends → length calls ≡ length ends
as_many_ends w [] ends h = sym (ap length h)
as_many_ends w (c ∷ calls) [] h = absurd h
as_many_ends w (c ∷ calls) (end ∷ ends) h = ap suc (as_many_ends (late w c (late_answer_of end)).world calls ends h.1)

module _ (w v : World) (c : LateCall) (end : LateEnd) where
  -- with one late call more, all that is kept
  pub record LateStep (xs calls : List LateCall) (ys ends : List LateEnd) : Type 0 where
    pub fit : IsFit v
    pub ready : All (IsReady v) calls
    pub sound : (me : Private) (tx : ℕ) → IsSound w me tx → IsSound v me tx
    pub words : length v.words ≡ length w.words
    pub next : AreEnded w xs ys → AreEnded v calls ends
    pub back : IsEnded w c end → AreEnded v calls ends → AreEnded w xs ys
    pub leads : led_by v calls ends ≡ led_by w xs ys

all_ready : (w : World) (c : LateCall) (a : LateAnswer) (calls : List LateCall) → IsShortCall c → IsFit w → All (IsReady w) calls
    → All (IsReady (late w c a).world) calls
all_ready w c a calls short fit all i d lt = late_keeps_ready w c a _ short fit (all i d lt)

-- from the late calls that are left to those behind the next one
pub late_step : (w v : World) (c : LateCall) (end : LateEnd) (xs calls : List LateCall) (ys ends : List LateEnd) → xs ≡ c ∷ calls → ys ≡ end ∷ ends
    → v ≡ (late w c (late_answer_of end)).world → IsFit w → All (IsReady w) xs → LateStep w v c end xs calls ys ends
late_step w v c end xs calls ys ends p q r fit ready =
    let all : All (IsReady w) (c ∷ calls) = subst (λ z. All (IsReady w) z) p ready in
    let one : IsReady w c = All-head (IsReady w) c calls all in
    subst (λ z. LateStep w v c end z calls ys ends) (sym p)
    (subst (λ z. LateStep w v c end (c ∷ calls) calls z ends) (sym q)
    (subst (λ z. LateStep w z c end (c ∷ calls) calls (end ∷ ends) ends) (sym r)
    (record {
      fit = late_fit w c (late_answer_of end) one.short fit;
      ready = all_ready w c (late_answer_of end) calls one.short fit (All-tail (IsReady w) c calls all);
      sound = λ me tx. late_sound w me tx c (late_answer_of end) one.short one.there;
      words = (late_keeps_others w c (late_answer_of end)).count;
      next = λ h. h.1;
      back = λ h rest. (h, rest);
      leads = refl;
    })))

-- the first that is left is ready
pub first_ready : (w : World) (c : LateCall) (xs calls : List LateCall) → xs ≡ c ∷ calls → All (IsReady w) xs → IsReady w c
first_ready w c xs calls p ready = All-head (IsReady w) c calls (subst (λ z. All (IsReady w) z) p ready)

-- late calls that end so fit, and give these ends
pub to_lates : (w : World) (calls : List LateCall) (ends : List LateEnd) → AreEnded w calls ends
    → IsTrue (lates_fit w (late_asked_of calls ends)) × ((lates w (late_asked_of calls ends)).ends ≡ ends)
to_lates w [] ends h = (refl, sym h)
to_lates w (c ∷ calls) [] h = absurd h
to_lates w (c ∷ calls) (end ∷ ends) h =
    let v = (late w c (late_answer_of end)).world in
    let rest = to_lates v calls ends h.1 in (
      and_from (late_fits w c (late_answer_of end)) (lates_fit v (late_asked_of calls ends)) h.0.fits rest.0,
      ap (λ e. e ∷ (lates v (late_asked_of calls ends)).ends) h.0.gives ∙ ap (λ es. end ∷ es) rest.1,
    )

-- late calls that fit and give these ends end so
pub from_lates : (w : World) (calls : List LateCall) (ends : List LateEnd)
    → IsTrue (lates_fit w (late_asked_of calls ends)) × ((lates w (late_asked_of calls ends)).ends ≡ ends) → AreEnded w calls ends
from_lates w [] ends h = sym h.1
from_lates w (c ∷ calls) [] h = absurd (none_is h.1)
from_lates w (c ∷ calls) (end ∷ ends) h =
    let e = late w c (late_answer_of end) in
    let fit = and_parts (late_fits w c (late_answer_of end)) (lates_fit e.world (late_asked_of calls ends)) h.0 in (
      record { fits = fit.0; gives = first_is e.end end (lates e.world (late_asked_of calls ends)).ends ends h.1 },
      from_lates e.world calls ends (fit.1, rest_is e.end end (lates e.world (late_asked_of calls ends)).ends ends h.1),
    )

-- they lead to the world that the late calls leave
pub led_to : (w : World) (calls : List LateCall) (ends : List LateEnd) → AreEnded w calls ends
    → led_by w calls ends ≡ (lates w (late_asked_of calls ends)).world
led_to w [] ends h = refl
led_to w (c ∷ calls) [] h = absurd h
led_to w (c ∷ calls) (end ∷ ends) h = led_to (late w c (late_answer_of end)).world calls ends h.1
