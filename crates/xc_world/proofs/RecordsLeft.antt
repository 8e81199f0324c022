-- The records that calls leave: one of each that leaves one.
use Rattle.std.proofs.Common.{◌≡◌, ℕ, ◌+◌, ◌≤◌, Bool, true, false, List, [], ◌∷◌, ◌++◌, length, refl, ap, sym, subst, arith}
use Rattle.std.specs.Prelude.{◌==◌, if◌then◌else◌, not}
use Rattle.std.specs.declared.option.Option.TheVariants.{None, Some}
use Rattle.xc_data.specs.declared.call.Call.{Call}
use Rattle.xc_data.specs.declared.call.Call.TheVariants as call
use Rattle.xc_data.specs.declared.call.Answer.{Answer}
use Rattle.xc_data.specs.declared.call.Reply.{Reply}
use Rattle.xc_data.specs.declared.call.Reply.TheVariants as reply
use Rattle.xc_data.specs.declared.private.Place.{Place}
use Rattle.xc_data.specs.declared.private.Place.TheVariants as place
use Rattle.xc_data.specs.declared.private.Private.{Private}
use Rattle.xc_data.specs.declared.undo.Undo.{Undo}
use Rattle.xc_data.specs.Private.{place_of}
use Rattle.xc_world.specs.Act.{act, done}
use Rattle.xc_world.specs.Act.Step.{Stepped, bytes_counted, step_to}
use Rattle.xc_world.specs.Checks.{IsChecked, is_bad_handle, is_bad_word, is_file, is_too_big, is_too_much, refusal_of}
use Rattle.xc_world.specs.RecordOf.{AreRecordsOf, IsRecordOf, leaves_record, left_by}
use Rattle.xc_world.specs.Trail.{append_record, create_record, done_of, overwrite_record, pair_record, pipe_record, recorded, rename_record}
use Rattle.xc_world.specs.World.{World}

-- ---- of one call
-- one record where something was done
pub one_of : (c : Call) (r : Reply) (b : Bool) (u : Undo) → IsRecordOf c r u
    → AreRecordsOf (if not b then (c, r) ∷ [] else []) (if b then [] else u ∷ [])
one_of c r true u is = refl
one_of c r false u is = (is, refl)

-- none where the call leaves none
pub none_of : (c : Call) (r : Reply) → leaves_record c r ≡ false → AreRecordsOf (left_by c r) []
none_of c r none = subst (λ b. AreRecordsOf (if b then (c, r) ∷ [] else []) []) (sym none) refl

-- the call leaves none where its records are none
pub none_left : (c : Call) (r : Reply) → AreRecordsOf (left_by c r) [] → leaves_record c r ≡ false
none_left c r are = by_test (leaves_record c r) are
  where
    by_test : (b : Bool) → AreRecordsOf (if b then (c, r) ∷ [] else []) [] → b ≡ false
    by_test true are = absurd are
    by_test false are = refl

-- it leaves one at most
pub one_left : (c : Call) (r : Reply) → length (left_by c r) ≤ 1
one_left c r = by_test (leaves_record c r)
  where
    by_test : (b : Bool) → let calls : List (Call × Reply) = if b then (c, r) ∷ [] else [] in length calls ≤ 1
    by_test true = omega arith
    by_test false = omega arith

-- nothing is done through a handle that is no file's
overwrite_of : (w : World) (h : ℕ) (bytes : List ℕ) (r : Reply) (p : Place) → (not (is_file p) ≡ true → done_of (length bytes) r ≡ 0)
    → AreRecordsOf (left_by (call.XWriteOvr h bytes) r) (overwrite_record w bytes (done_of (length bytes) r) p)
overwrite_of w h bytes r (place.File num at) none = one_of (call.XWriteOvr h bytes) r (done_of (length bytes) r == 0) _ (refl, refl)
overwrite_of w h bytes r _ none = none_of (call.XWriteOvr h bytes) r (ap (λ n. not (n == 0)) (none refl))

append_of : (w : World) (h : ℕ) (bytes : List ℕ) (r : Reply) (p : Place) → (not (is_file p) ≡ true → done_of (length bytes) r ≡ 0)
    → AreRecordsOf (left_by (call.XWriteSeq h bytes) r) (append_record w bytes (done_of (length bytes) r) p)
append_of w h bytes r (place.File num at) none = one_of (call.XWriteSeq h bytes) r (done_of (length bytes) r == 0) _ (refl, refl)
append_of w h bytes r _ none = none_of (call.XWriteSeq h bytes) r (ap (λ n. not (n == 0)) (none refl))

-- a call with a bad handle is refused
refused_handle : (c : Call) (me : Private) (r : Reply) → IsChecked (refusal_of c me) c r → is_bad_handle c me ≡ true → r ≡ reply.BadHandle
refused_handle c me r checked bad =
    subst (λ b. IsChecked (if b then Some reply.BadHandle else if is_too_big c then Some reply.TooBig
    else if is_too_much c me then Some reply.TooMuch else None) c r) bad checked

-- a file that is made, under its name
pub create_of : (me : Private) (number : ℕ) (name : List ℕ) (r : Reply)
    → AreRecordsOf (left_by (call.XCreate name) r) (create_record me number name r)
create_of me number name (reply.Made h) = (refl, refl)
create_of me number name _ = refl

-- a pipe that is made
pub pipe_of : (me : Private) (number : ℕ) (r : Reply) → AreRecordsOf (left_by call.XPipe r) (pipe_record me number r)
pipe_of me number (reply.Made h) = (tt, refl)
pipe_of me number _ = refl

-- a pair that is made
pub pair_of : (me : Private) (number : ℕ) (r : Reply) → AreRecordsOf (left_by call.XPair r) (pair_record me number r)
pair_of me number (reply.MadePair h g) = (tt, refl)
pair_of me number _ = refl

-- a file that takes another name
pub rename_of : (from to : List ℕ) (r : Reply) → AreRecordsOf (left_by (call.XRename from to) r) (rename_record from to r)
rename_of from to reply.Done = ((refl, refl), refl)
rename_of from to _ = refl

-- the reply of a call, by whether its handle is bad
abbrev refused_if : World → Private → Stepped → Bool → Reply
refused_if w me other bad = (if bad then step_to w me reply.BadHandle else other).reply

-- the plain machine's are such, where a bad handle is replied so
recorded_where : (w : World) (me : Private) (number : ℕ) (c : Call) (r : Reply) → (is_bad_handle c me ≡ true → r ≡ reply.BadHandle)
    → AreRecordsOf (left_by c r) (recorded w me number c r)
recorded_where w me number (call.XWriteOvr h bytes) r bad =
    overwrite_of w h bytes r (place_of me.places h) (λ is. ap (done_of (length bytes)) (bad is))
recorded_where w me number (call.XWriteSeq h bytes) r bad =
    append_of w h bytes r (place_of me.places h) (λ is. ap (done_of (length bytes)) (bad is))
recorded_where w me number (call.XCreate name) r bad = create_of me number name r
recorded_where w me number (call.XRename from to) r bad = rename_of from to r
recorded_where w me number call.XPipe r bad = pipe_of me number r
recorded_where w me number call.XPair r bad = pair_of me number r
recorded_where w me number c r bad = refl

-- so where a check refuses the call, with its reply
pub recorded_of : (w : World) (me : Private) (number : ℕ) (c : Call) (r : Reply) → IsChecked (refusal_of c me) c r
    → AreRecordsOf (left_by c r) (recorded w me number c r)
recorded_of w me number c r checked = recorded_where w me number c r (refused_handle c me r checked)

-- and so of a call that the plain machine does
pub acted_of : (w : World) (me : Private) (tx : ℕ) (c : Call) (a : Answer)
    → AreRecordsOf (left_by c (act w me tx c a).reply) (recorded w me tx c (act w me tx c a).reply)
acted_of w me tx c a =
    let other : Stepped =
    if is_too_big c then step_to w me reply.TooBig
    else if is_too_much c me then step_to w me reply.TooMuch
    else if is_bad_word c (length w.words) then step_to w me reply.BadWord
    else bytes_counted c (done w me tx c a) in
    recorded_where w me tx c (act w me tx c a).reply (λ bad. ap (refused_if w me other) bad)

-- ---- of calls
-- there is one of each
pub as_many : (calls : List (Call × Reply)) (records : List Undo) → AreRecordsOf calls records → length records ≡ length calls
as_many [] records are = ap length are
as_many (c ∷ calls) [] are = absurd are
as_many (c ∷ calls) (u ∷ records) are = let rest = as_many calls records are.1 in omega arith

-- those of more calls come behind
pub more_records : (calls more : List (Call × Reply)) (records behind : List Undo) → AreRecordsOf calls records → AreRecordsOf more behind
    → AreRecordsOf (calls ++ more) (records ++ behind)
more_records [] more records behind are next = subst (λ us. AreRecordsOf more (us ++ behind)) (sym are) next
more_records (c ∷ calls) more [] behind are next = absurd are
more_records (c ∷ calls) more (u ∷ records) behind are next = (are.0, more_records calls more records behind are.1 next)

-- those in front are of the calls in front
pub front_records : (calls more : List (Call × Reply)) (records behind : List Undo) → length records ≡ length calls
    → AreRecordsOf (calls ++ more) (records ++ behind) → AreRecordsOf calls records
front_records [] more [] behind count are = refl
front_records [] more (u ∷ records) behind count are = absurd (omega arith)
front_records (c ∷ calls) more [] behind count are = absurd (omega arith)
front_records (c ∷ calls) more (u ∷ records) behind count are = (are.0, front_records calls more records behind (omega arith) are.1)
