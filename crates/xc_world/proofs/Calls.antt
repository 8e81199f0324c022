-- One call: what it depends on and changes, by its claims.
use Rattle.std.proofs.Common.{◌≡◌, inl, inr, ℕ, Bool, true, false, not, ◌||◌, ◌&&◌, List, [], ◌∷◌, ◌++◌, length, take, drop, ap, sym, ◌∙◌, subst, refl}
use Rattle.std.specs.Prelude.{All, Contains, ◌==◌, map, nat_lt, if◌then◌else◌}
use Rattle.std.proofs.lemmas.Bool.{cond_both}
use Rattle.std.proofs.lemmas.List.Elements.{All-nil, All-cons, All-weaker, All-contains, All-contains_itself, Contains-append_cases}
use Rattle.xc_data.specs.declared.object.Object.{Object}
use Rattle.xc_data.specs.declared.object.Object.TheVariants as object
use Rattle.xc_data.specs.declared.undo.Undo.{Undo}
use Rattle.xc_data.specs.declared.undo.Undo.TheVariants.{Overwrite, Append}
use Rattle.xc_data.specs.declared.call.Call.{Call}
use Rattle.xc_data.specs.declared.call.Call.TheVariants as call
use Rattle.xc_data.specs.declared.call.Answer.{Answer}
use Rattle.xc_data.specs.declared.call.Answer.TheVariants as answer
use Rattle.xc_data.specs.declared.call.Reply.{Reply}
use Rattle.xc_data.specs.declared.call.Reply.TheVariants as reply
use Rattle.xc_data.specs.declared.private.Place.{Place}
use Rattle.xc_data.specs.declared.private.Place.TheVariants as place
use Rattle.xc_data.specs.declared.private.Private.{Private}
use Rattle.xc_data.specs.Private.{place_of}
use Rattle.xc_world.specs.World.{World}
use Rattle.xc_world.specs.Checks.{is_refused, is_bad_handle, is_too_big, is_too_much, is_bad_word}
use Rattle.xc_data.specs.Calls.{bytes_of}
use Rattle.xc_world.specs.Act.{act, fine, done}
use Rattle.xc_world.specs.Act.Step.{Stepped, step_to, bytes_counted}
use Rattle.xc_world.specs.Touch.{touch, objects_of_call, object_at, made_by}
use Rattle.xc_world.specs.Trail.{done_of, overwrite_record, append_record, recorded}
use Rattle.xc_world.specs.Fits.{fits, asks_host, is_write, is_done}
use Rattle.xc_world.specs.Laws.{AgreeAt, ChangesOnly, GoAlike}
use Rattle.xc_world.proofs.LocalParts.{first_in, agree_itself}
use Rattle.xc_world.proofs.LocalCalls.{same_file, done_alike}
use Rattle.xc_world.proofs.UndoingBody.{refusal-none}
use Rattle.xc_data.specs.declared.claim.Mode.{Mode}
use Rattle.xc_data.specs.declared.claim.Mode.TheVariants.{Shared, Exclusive}
use Rattle.xc_data.specs.Claims.{claim, objects, owned}
use Rattle.xc_world.specs.Modes.{mode_of, claims_of}
use Rattle.xc_world.specs.Own.{IsNumbered, AgreeOn, KeepsBut}
use Rattle.xc_world.proofs.Objects.{decide, agree_back, agree_on}
use Rattle.xc_world.proofs.Reading.{act_leaves}

-- ---- claims and their objects
pub objects_of_claims : (m : Mode) (os : List Object) → objects (map (claim m) os) ≡ os
objects_of_claims m [] = refl
objects_of_claims m (o ∷ os) = ap (λ l. o ∷ l) (objects_of_claims m os)

-- exclusive claims own all their objects
pub owned_exclusive : (os : List Object) → owned (map (claim Exclusive) os) ≡ os
owned_exclusive [] = refl
owned_exclusive (o ∷ os) = ap (λ l. o ∷ l) (owned_exclusive os)

-- a call that claims exclusively owns all that it touches
pub owned_of_call : (c : Call) (me : Private) (words : ℕ) → mode_of c ≡ Exclusive → owned (claims_of c me words) ≡ touch c me words
owned_of_call c me words e = ap (λ m. owned (map (claim m) (touch c me words))) e ∙ owned_exclusive (touch c me words)

-- ---- what a call makes has the transaction's number
one_numbered : (tx : ℕ) (o : Object) → IsNumbered tx o → All (IsNumbered tx) (o ∷ [])
one_numbered tx o e = All-cons (IsNumbered tx) o [] e (All-nil (IsNumbered tx))

all_numbered : (me : Private) (tx : ℕ) (c : Call) → All (IsNumbered tx) (made_by c me tx)
all_numbered me tx (call.XCreate name) = one_numbered tx _ refl
all_numbered me tx call.XPipe = one_numbered tx _ refl
all_numbered me tx call.XPair = one_numbered tx _ refl
all_numbered me tx _ = All-nil (IsNumbered tx)

-- what a call makes has the transaction's number
pub made_numbered : (me : Private) (tx : ℕ) (c : Call) (o : Object) → Contains (made_by c me tx) o → IsNumbered tx o
made_numbered me tx c o at = All-contains (IsNumbered tx) (made_by c me tx) o (all_numbered me tx c) at

-- ---- a call is refused by a check, or passed all and is done
none_of : (a b c d : Bool) → a ≡ false → b ≡ false → c ≡ false → d ≡ false → (a || b || c || d) ≡ false
none_of a b c d p q r s = ap (λ x. x || b || c || d) p ∙ ap (λ x. x || c || d) q ∙ ap (λ x. x || d) r ∙ s

-- what holds of each refusal, and of a call that passes, holds of what a call does
pub act_cases : (w : World) (me : Private) (tx : ℕ) (c : Call) (a : Answer) (P : Stepped → Type 0)
    → P (step_to w me reply.BadHandle) → P (step_to w me reply.TooBig) → P (step_to w me reply.TooMuch) → P (step_to w me reply.BadWord)
    → (is_refused c me (length w.words) ≡ false → P (bytes_counted c (done w me tx c a))) → P (act w me tx c a)
act_cases w me tx c a P bad_handle too_big too_much bad_word passed =
    cond_both (is_bad_handle c me) _ _ P (λ _. bad_handle) (λ p.
    cond_both (is_too_big c) _ _ P (λ _. too_big) (λ q.
    cond_both (is_too_much c me) _ _ P (λ _. too_much) (λ r.
    cond_both (is_bad_word c (length w.words)) _ _ P (λ _. bad_word)
    (λ s. passed (none_of (is_bad_handle c me) (is_too_big c) (is_too_much c me) (is_bad_word c (length w.words)) p q r s)))))

-- a call that is not refused touches all its objects
pub touched_all : (c : Call) (me : Private) (words : ℕ) → is_refused c me words ≡ false → touch c me words ≡ objects_of_call c me
touched_all c me words e = ap (λ b. if b then [] else objects_of_call c me) e

-- ---- its record
overwrite_alike : (w v : World) (bytes : List ℕ) (n : ℕ) (p : Place) → All (AgreeAt w v) (object_at p)
    → overwrite_record w bytes n p ≡ overwrite_record v bytes n p
overwrite_alike w v bytes n (place.File num at) agree =
    let f : List ℕ → List Undo = λ file. if n == 0 then [] else Overwrite num at (take (length bytes) (drop at file)) bytes n ∷ [] in
    ap f (same_file (object.File num ∷ []) w v num (first_in (object.File num) []) agree)
overwrite_alike w v bytes n place.Vacant agree = refl
overwrite_alike w v bytes n (place.Pipe num) agree = refl
overwrite_alike w v bytes n (place.Pair num side) agree = refl

append_alike : (w v : World) (bytes : List ℕ) (n : ℕ) (p : Place) → All (AgreeAt w v) (object_at p) → append_record w bytes n p ≡ append_record v bytes n p
append_alike w v bytes n (place.File num at) agree =
    let f : List ℕ → List Undo = λ file. if n == 0 then [] else Append num (length file) bytes n ∷ [] in
    ap f (same_file (object.File num ∷ []) w v num (first_in (object.File num) []) agree)
append_alike w v bytes n place.Vacant agree = refl
append_alike w v bytes n (place.Pipe num) agree = refl
append_alike w v bytes n (place.Pair num side) agree = refl

-- whatever the reply
passed_recorded : (w v : World) (me : Private) (tx : ℕ) (c : Call) (r : Reply) → All (AgreeAt w v) (objects_of_call c me)
    → recorded w me tx c r ≡ recorded v me tx c r
passed_recorded w v me tx (call.XWriteOvr h bytes) r agree = overwrite_alike w v bytes (done_of (length bytes) r) (place_of me.places h) agree
passed_recorded w v me tx (call.XWriteSeq h bytes) r agree = append_alike w v bytes (done_of (length bytes) r) (place_of me.places h) agree
passed_recorded w v me tx _ r agree = refl

-- a call's record is the same in worlds that agree on what it touches
pub recorded_alike : (w v : World) (me : Private) (tx : ℕ) (c : Call) (a : Answer) → All (AgreeAt w v) (touch c me (length w.words))
    → recorded w me tx c (act w me tx c a).reply ≡ recorded v me tx c (act w me tx c a).reply
recorded_alike w v me tx c a agree =
    let here = refusal-none w me tx c in
    let there = refusal-none v me tx c in
    act_cases w me tx c a (λ (s : Stepped). recorded w me tx c s.reply ≡ recorded v me tx c s.reply)
    (here.bad_handle ∙ sym there.bad_handle) (here.too_big ∙ sym there.too_big) (here.too_much ∙ sym there.too_much) (here.bad_word ∙ sym there.bad_word)
    (λ passed. passed_recorded w v me tx c _ (subst (All (AgreeAt w v)) (touched_all c me (length w.words) passed) agree))

-- ---- which answers fit it
pub fits_alike : (w v : World) (me : Private) (tx : ℕ) (c : Call) (a : Answer) → length w.words ≡ length v.words
    → All (AgreeAt w v) (touch c me (length w.words) ++ made_by c me tx) → fits w me tx c a ≡ fits v me tx c a
fits_alike w v me tx c answer.Fine count agree = refl
fits_alike w v me tx c (answer.Undone n) count agree = refl
fits_alike w v me tx c (answer.Fault n) count agree = by_check (is_refused c me (length w.words)) refl
  where
    of_reply : Bool → Reply → Bool
    of_reply b r = not b && (if n == 0 then asks_host c else is_write c && is_done r && nat_lt n (length (bytes_of c)))

    later : (b : Bool) → is_refused c me (length w.words) ≡ b → of_reply b (fine w me tx c).reply ≡ of_reply b (fine v me tx c).reply
    later true e = refl
    later false e =
        ap (of_reply false) (done_alike w v me tx c answer.Fine
        (subst (λ l. All (AgreeAt w v) (l ++ made_by c me tx)) (touched_all c me (length w.words) e) agree)).reply

    by_check : (b : Bool) → is_refused c me (length w.words) ≡ b
        → of_reply (is_refused c me (length w.words)) (fine w me tx c).reply ≡ of_reply (is_refused c me (length v.words)) (fine v me tx c).reply
    by_check b e =
        ap (λ x. of_reply x (fine w me tx c).reply) e ∙ later b e
        ∙ ap (λ x. of_reply x (fine v me tx c).reply) (sym e ∙ ap (is_refused c me) count)

-- ---- two worlds that agree on a kind of objects, among them the call's, go on so
pub agreed : (P : Object → Type 0) (w v : World) (listed : List Object) → AgreeOn P w v → ((o : Object) → Contains listed o → P o) → All (AgreeAt w v) listed
agreed P w v listed agree within = All-weaker (Contains listed) (AgreeAt w v) (λ o at. agree o (within o at)) listed (All-contains_itself listed)

-- worlds that agree on a kind of objects still do after going on alike
pub still_agree : (P : Object → Type 0) (w v x y : World) (listed : List Object) → GoAlike listed w v x y → AgreeOn P w v → AgreeOn P x y
still_agree P w v x y listed go agree o p = elim (decide listed o) [
  | inl at ↦ All-contains (AgreeAt x y) listed o go.agree at
  | inr lacks ↦ agree_on x w y o (agree_back w x o (go.left.others o lacks)) (agree_on w v y o (agree o p) (go.right.others o lacks))
]

-- ---- it changes what it claims exclusively or makes
pub keeps_itself : (own : Object → Type 0) (w : World) → KeepsBut own w w
keeps_itself own w = record { others = λ o _. agree_itself w o; count = refl; blocks = refl }

-- a call keeps all but what it claims exclusively or makes
pub act_keeps : (own : Object → Type 0) (w : World) (me : Private) (tx : ℕ) (c : Call) (a : Answer)
    → ((o : Object) → Contains (owned (claims_of c me (length w.words))) o → own o) → ((o : Object) → IsNumbered tx o → own o)
    → ChangesOnly (touch c me (length w.words) ++ made_by c me tx) w (act w me tx c a).world → KeepsBut own w (act w me tx c a).world
act_keeps own w me tx c a claimed numbered only = by_mode (mode_of c) refl
  where
    by_mode : (m : Mode) → mode_of c ≡ m → KeepsBut own w (act w me tx c a).world
    by_mode Shared e = subst (KeepsBut own w) (sym (act_leaves w me tx c a e)) (keeps_itself own w)
    by_mode Exclusive e =
        record {
          others = λ o lacks. only.others o (λ at. elim (Contains-append_cases (touch c me (length w.words)) (made_by c me tx) o at) [
            | inl touched ↦ lacks (claimed o (subst (λ l. Contains l o) (sym (owned_of_call c me (length w.words) e)) touched))
            | inr made ↦ lacks (numbered o (made_numbered me tx c o made))
          ]);
          count = only.count;
          blocks = only.blocks;
        }
