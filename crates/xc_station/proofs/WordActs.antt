-- Calls on words on the plain machine.
use Rattle.std.proofs.Common.{◌≡◌, ℕ, Bool, true, false, List, [], ◌∷◌, ◌++◌, length, refl, ap, sym, ◌∙◌, arith}
use Rattle.std.specs.Prelude.{slice_index, slice_set, nat_le, if◌then◌else◌}
use Rattle.std.specs.declared.option.Option.TheVariants.{None}
use Rattle.xc_data.specs.declared.call.Call.{Call}
use Rattle.xc_data.specs.declared.call.Call.TheVariants as call
use Rattle.xc_data.specs.declared.call.Answer.TheVariants as answer
use Rattle.xc_data.specs.declared.call.Reply.{Reply}
use Rattle.xc_data.specs.declared.call.Reply.TheVariants as reply
use Rattle.xc_data.specs.declared.private.Private.{Private}
use Rattle.xc_host.specs.Uses.{CallsOf}
use Rattle.xc_world.specs.World.{World}
use Rattle.xc_world.specs.Act.{act}
use Rattle.xc_world.specs.After.{IsMeAfter, bytes_in}
use Rattle.xc_world.specs.Checks.{IsChecked, refusal_of}
use Rattle.xc_world.specs.Replies.{may_reply}
use Rattle.xc_world.specs.Act.Step.{step_to}
use Rattle.xc_world.specs.Fits.{answer_of}
use Rattle.xc_world.specs.RecordOf.{AreRecordsOf, left_by}
use Rattle.xc_world.specs.Trail.{recorded}
use Rattle.xc_data.specs.Faults.{is_fault_reply}
use Rattle.xc_script.specs.Answers.{value_in}
use Rattle.xc_model.specs.PlainSteps.{stored_by}
use Rattle.xc_model.specs.WordCalls.{IsWordStep, is_word_call, word_reply, words_after}

-- an empty list after a list changes nothing
pub append_nil : {A : Type 0} (xs : List A) → xs ++ [] ≡ xs
append_nil [] = refl
append_nil (x ∷ xs) = ap (λ ys. x ∷ ys) (append_nil xs)

-- ---- calls on words
word_load : (w : World) (me : Private) (at : ℕ) (b : Bool) →
    (if b then step_to w me reply.BadWord else step_to w me (reply.Number (slice_index w.words at)))
    ≡ step_to w me (if b then reply.BadWord else reply.Number (slice_index w.words at))
word_load w me at true = refl
word_load w me at false = refl

word_store : (w : World) (me : Private) (at value : ℕ) (b : Bool) →
    (if b then step_to w me reply.BadWord else step_to (record w { words = slice_set w.words at value }) me reply.Done)
    ≡ step_to (record w { words = if b then w.words else slice_set w.words at value }) me (if b then reply.BadWord else reply.Done)
word_store w me at value true = refl
word_store w me at value false = refl

-- the plain machine does a call on words by the words alone
pub word-act : (w : World) (me : Private) (tx : ℕ) (c : Call)
    → is_word_call c ≡ true → act w me tx c answer.Fine ≡ step_to (record w { words = words_after w.words c }) me (word_reply w.words c)
word-act w me tx (call.Load at) is = word_load w me at (nat_le (length w.words) at)
word-act w me tx (call.Store at value) is = word_store w me at value (nat_le (length w.words) at)
word-act w me tx _ is = cc

fine_load : (b : Bool) (n : ℕ) → answer_of (if b then reply.BadWord else reply.Number n) ≡ answer.Fine
fine_load true n = refl
fine_load false n = refl

fine_store : (b : Bool) → answer_of (if b then reply.BadWord else reply.Done) ≡ answer.Fine
fine_store true = refl
fine_store false = refl

-- no call on words brings a fault
pub word-fine : (words : List ℕ) (c : Call) → is_word_call c ≡ true → answer_of (word_reply words c) ≡ answer.Fine
word-fine words (call.Load at) is = fine_load (nat_le (length words) at) (slice_index words at)
word-fine words (call.Store at value) is = fine_store (nat_le (length words) at)
word-fine words _ is = cc

-- no call on words leaves a record
pub word-trail : (w : World) (me : Private) (tx : ℕ) (c : Call) (r : Reply) → is_word_call c ≡ true → recorded w me tx c r ≡ []
word-trail w me tx (call.Load at) r is = refl
word-trail w me tx (call.Store at value) r is = refl
word-trail w me tx _ r is = cc

-- and none over any host
pub word-kinds : (c : Call) (r : Reply) → is_word_call c ≡ true → AreRecordsOf (left_by c r) []
word-kinds (call.Load at) r is = refl
word-kinds (call.Store at value) r is = refl
word-kinds _ r is = cc

quiet_load : (b : Bool) (n : ℕ) → is_fault_reply (if b then reply.BadWord else reply.Number n) ≡ false
quiet_load true n = refl
quiet_load false n = refl

quiet_store : (b : Bool) → is_fault_reply (if b then reply.BadWord else reply.Done) ≡ false
quiet_store true = refl
quiet_store false = refl

-- nor does its reply tell of one
pub word-quiet : (words : List ℕ) (c : Call) → is_word_call c ≡ true → is_fault_reply (word_reply words c) ≡ false
word-quiet words (call.Load at) is = quiet_load (nat_le (length words) at) (slice_index words at)
word-quiet words (call.Store at value) is = quiet_store (nat_le (length words) at)
word-quiet words _ is = cc

-- ---- what they leave of the private state, and of the host
may_load : (b : Bool) (at n : ℕ) → may_reply (call.Load at) (if b then reply.BadWord else reply.Number n) ≡ true
may_load true at n = refl
may_load false at n = refl

may_store : (b : Bool) (at value : ℕ) → may_reply (call.Store at value) (if b then reply.BadWord else reply.Done) ≡ true
may_store true at value = refl
may_store false at value = refl

-- no private check refuses one, and its reply is one that may come
pub word-checked : (words : List ℕ) (me : Private) (c : Call) → is_word_call c ≡ true → IsChecked (refusal_of c me) c (word_reply words c)
word-checked words me (call.Load at) is = may_load (nat_le (length words) at) at (slice_index words at)
word-checked words me (call.Store at value) is = may_store (nat_le (length words) at) at value
word-checked words me _ is = cc

bytes_load : (b : Bool) (n : ℕ) → bytes_in (if b then reply.BadWord else reply.Number n) ≡ 0
bytes_load true n = refl
bytes_load false n = refl

bytes_store : (b : Bool) → bytes_in (if b then reply.BadWord else reply.Done) ≡ 0
bytes_store true = refl
bytes_store false = refl

-- the private state stays
pub word-after : (words : List ℕ) (me : Private) (tx : ℕ) (c : Call) → is_word_call c ≡ true → IsMeAfter tx c (word_reply words c) me me
word-after words me tx (call.Load at) is =
    let none = bytes_load (nat_le (length words) at) (slice_index words at) in record { places = refl; made = refl; stored = omega (arith, none) }
word-after words me tx (call.Store at value) is =
    let none = bytes_store (nat_le (length words) at) in record { places = refl; made = refl; stored = omega (arith, none) }
word-after words me tx _ is = cc

-- and the host isn't called
pub word-uses : (me : Private) (c : Call) (r : Reply) → is_word_call c ≡ true → CallsOf (refusal_of c me) c r []
word-uses me (call.Load at) r is = refl
word-uses me (call.Store at value) r is = refl
word-uses me _ r is = cc

-- ---- other calls
-- they store to no word
pub no_stores : (n : ℕ) (c : Call) → is_word_call c ≡ false → stored_by n c ≡ []
no_stores n (call.Load at) is = refl
no_stores n (call.Store at value) is = cc
no_stores n _ is = refl

still_after : (words : List ℕ) (c : Call) → is_word_call c ≡ false → words_after words c ≡ words
still_after words (call.Load at) is = refl
still_after words (call.Store at value) is = cc
still_after words _ is = refl

-- they leave the words
pub still_words : (words : List ℕ) (c : Call) (r : Reply) → is_word_call c ≡ false → IsWordStep words words c r
still_words words c r is =
    record { words = sym (still_after words c is); gives = λ word. let no : true ≡ false = sym word ∙ is in cc }

store_brings_none : (b : Bool) → value_in (if b then reply.BadWord else reply.Done) ≡ None
store_brings_none true = refl
store_brings_none false = refl

-- a call whose reply brings a value stored nothing
pub no_value : (n : ℕ) (words : List ℕ) (c : Call) (r : Reply) → (is_word_call c ≡ true → r ≡ word_reply words c) → (value_in r ≡ None → ⊥)
    → stored_by n c ≡ []
no_value n words (call.Store at value) r gives brings = absurd (brings (ap value_in (gives refl) ∙ store_brings_none (nat_le (length words) at)))
no_value n words _ r gives brings = refl
