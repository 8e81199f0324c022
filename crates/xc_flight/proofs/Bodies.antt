-- A body of one call more, as its transaction notes it.
use Rattle.std.proofs.Common.{◌≡◌, ℕ, ◌+◌, ◌&&◌, Bool, true, false, List, [], ◌∷◌, ◌++◌, suc, length, ap, refl, arith}
use Rattle.std.specs.Prelude.{IsTrue}
use Rattle.std.proofs.lemmas.Bool.{and_parts}
use Rattle.xc_data.specs.declared.call.Call.{Call}
use Rattle.xc_data.specs.declared.call.CallWithAnswer.{CallWithAnswer}
use Rattle.xc_data.specs.declared.call.Reply.{Reply}
use Rattle.xc_world.specs.Act.{act}
use Rattle.xc_world.specs.Fits.{fits, answer_of}
use Rattle.xc_world.specs.Run.{BlockState, step, block_step, runs_on, fits_on, asked_of}
use Rattle.xc_world.proofs.Laws.{marked_replies}

-- two tests that hold
pub both_true : (a b : Bool) → a ≡ true → b ≡ true → (a && b) ≡ true
both_true true b p q = q
both_true false b p q = p

-- its answer fits where the body ended
pub fits_more : (tx : ℕ) (b : BlockState) (asked : List CallWithAnswer) (c : CallWithAnswer) → IsTrue (fits_on tx b asked)
    → IsTrue (fits (runs_on tx b asked).now.world (runs_on tx b asked).now.me tx c.call c.answer) → IsTrue (fits_on tx b (asked ++ c ∷ []))
fits_more tx b [] c before fit = both_true (fits b.now.world b.now.me tx c.call c.answer) true fit refl
fits_more tx b (d ∷ asked) c before fit =
    let s = block_step tx b d in
    let parts = and_parts (fits b.now.world b.now.me tx d.call d.answer) (fits_on tx s asked) before in
    both_true (fits b.now.world b.now.me tx d.call d.answer) (fits_on tx s (asked ++ c ∷ [])) parts.0 (fits_more tx s asked c parts.1 fit)

-- one call more with its reply
pub asked_more : (calls : List Call) (replies : List Reply) (c : Call) (r : Reply) → length calls ≡ length replies
    → asked_of (calls ++ c ∷ []) (replies ++ r ∷ []) ≡ asked_of calls replies ++ record { call = c; answer = answer_of r } ∷ []
asked_more [] [] c r e = refl
asked_more [] (q ∷ replies) c r e = absurd (omega arith)
asked_more (d ∷ calls) [] c r e = absurd (omega arith)
asked_more (d ∷ calls) (q ∷ replies) c r e = ap (λ xs. record { call = d; answer = answer_of q } ∷ xs) (asked_more calls replies c r (omega arith))

-- a body gives a reply for each call
pub push_count : {X : Type 0} (xs : List X) (x : X) → length (xs ++ x ∷ []) ≡ suc (length xs)
push_count [] x = refl
push_count (y ∷ ys) x = ap suc (push_count ys x)

-- a body gives a reply for each call
pub replies_count : (tx : ℕ) (b : BlockState) (asked : List CallWithAnswer) → length (runs_on tx b asked).now.replies ≡ length b.now.replies + length asked
replies_count tx b [] = omega arith
replies_count tx b (c ∷ asked) = (let more = replies_count tx (block_step tx b c) asked in let one = push_count b.now.replies
    (act b.now.world b.now.me tx c.call c.answer).reply in let same = ap length (marked_replies c.call b.saved (step tx b.now c)) in omega
    (arith, more, one, same))

-- there are as many answers as calls
pub asked_count : (calls : List Call) (replies : List Reply) → length (asked_of calls replies) ≡ length calls
asked_count [] replies = refl
asked_count (c ∷ calls) [] = ap suc (asked_count calls [])
asked_count (c ∷ calls) (r ∷ replies) = ap suc (asked_count calls replies)
