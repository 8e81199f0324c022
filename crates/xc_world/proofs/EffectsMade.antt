-- A call makes its record in the world before it, as each kind of record asks.
use Rattle.std.proofs.Common.{◌≡◌, ℕ, ◌+◌, ◌≤◌, ◌<◌, Bool, true, false, Option, Some, None, is_some, List, [], ◌∷◌, length, take}
use Rattle.std.proofs.Common.{drop, refl, ap, sym, subst, arith}
use Rattle.std.specs.Prelude.{IsTrue, ◌==◌, nat_lt, if◌then◌else◌}
use Rattle.std.specs.FinMap as finite
use Rattle.std.proofs.lemmas.Bool.{false≢true, cond_both, eqb-true, ltb-false}
use Rattle.xc_data.specs.declared.object.Num.{Num}
use Rattle.xc_data.specs.declared.call.Call.{Call}
use Rattle.xc_data.specs.declared.call.Call.TheVariants as call
use Rattle.xc_data.specs.declared.call.Answer.{Answer}
use Rattle.xc_data.specs.declared.call.Answer.TheVariants as answer
use Rattle.xc_data.specs.declared.undo.Undo.{Undo}
use Rattle.xc_data.specs.declared.undo.Undo.TheVariants.{Overwrite, Append}
use Rattle.xc_data.specs.declared.private.Place.{Place}
use Rattle.xc_data.specs.declared.private.Place.TheVariants.{Vacant, File, Pipe, Pair}
use Rattle.xc_data.specs.declared.private.Private.{Private}
use Rattle.xc_data.specs.Private.{place_of, with_place, lowest_vacant}
use Rattle.xc_world.specs.World.{World, file_of}
use Rattle.xc_world.specs.Sound.{IsFree, IsKnown, IsSound}
use Rattle.xc_world.specs.Act.Step.{Stepped}
use Rattle.xc_world.specs.Act.Names.{next_num, create_step, rename_step}
use Rattle.xc_world.specs.Act.Files.{overwrite_at, append_at, overwrite_short, append_short}
use Rattle.xc_world.specs.Act.Pipes.{new_pipe, pair_made, new_pair}
use Rattle.xc_world.specs.Act.{fine, faulty, done, act}
use Rattle.xc_world.specs.Fits.{fits, is_done}
use Rattle.xc_world.specs.Trail.{done_of, overwrite_record, append_record, create_record, rename_record, pipe_record, pair_record, recorded}
use Rattle.xc_world.specs.Effects.{AreMadeIn}
use Rattle.xc_world.proofs.UndoingCalls.{StopsBefore, done-inside}
use Rattle.xc_world.proofs.UndoingBody.{refusal-none, act-cases, next_free, stops, undone-none}

-- ---- one overwrite
abbrev pub MakesOverwrite : World → List ℕ → Place → Stepped → Type 0
MakesOverwrite w bytes p s = AreMadeIn w (overwrite_record w bytes (done_of (length bytes) s.reply) p)

made_none : (w : World) (us : List Undo) (b : Bool) → b ≡ true → AreMadeIn w (if b then [] else us)
made_none w us b e = subst (λ c. AreMadeIn w (if c then [] else us)) (sym e) tt

made_one : (w : World) (us : List Undo) (b : Bool) → b ≡ false → AreMadeIn w us → AreMadeIn w (if b then [] else us)
made_one w us b e h = subst (λ c. AreMadeIn w (if c then [] else us)) (sym e) h

put-made : (w : World) (num : Num) (at n : ℕ) (bytes : List ℕ) → is_some (finite.get w.files num) ≡ true → at + length bytes ≤ length (file_of w num)
    → 1 ≤ n → n ≤ length bytes → AreMadeIn w (Overwrite num at (take (length bytes) (drop at (file_of w num))) bytes n ∷ [])
put-made w num at n bytes there inside some within = (record { there = there; inside = inside; old = refl; some = some; within = within }, tt)

overwrite_at-made : (w : World) (me : Private) (h : ℕ) (bytes : List ℕ) (p : Place) → IsKnown w p → MakesOverwrite w bytes p (overwrite_at w me h bytes p)
overwrite_at-made w me h bytes (File num at) there =
    cond_both (length bytes == 0) _ _ (MakesOverwrite w bytes (File num at)) (λ none. made_none w _ (length bytes == 0) none) (λ some.
    cond_both (nat_lt (length (file_of w num)) (at + length bytes)) _ _ (MakesOverwrite w bytes (File num at)) (λ _. tt) (λ inside.
    made_one w _ (length bytes == 0) some
    (put-made w num at (length bytes) bytes there (ltb-false (length (file_of w num)) (at + length bytes) inside) (grind (arith, some)) (omega arith))))
overwrite_at-made w me h bytes Vacant known = tt
overwrite_at-made w me h bytes (Pipe num) known = tt
overwrite_at-made w me h bytes (Pair num side) known = tt

overwrite_short-made : (w : World) (me : Private) (h : ℕ) (bytes : List ℕ) (n : ℕ) (p : Place) → IsKnown w p
    → ((n == 0) ≡ false → StopsBefore n bytes (overwrite_at w me h bytes p)) → MakesOverwrite w bytes p (overwrite_short w me (h, p) bytes n)
overwrite_short-made w me h bytes n (File num at) there stops =
    cond_both (n == 0) _ _ (MakesOverwrite w bytes (File num at)) (λ none. made_none w _ (n == 0) none) (λ some.
    let before = (stops some).before in
    made_one w _ (n == 0) some
    (put-made w num at n bytes there (done-inside w me h bytes num at (omega arith) (stops some).would) (grind (arith, some)) (omega arith)))
overwrite_short-made w me h bytes n Vacant known stops = tt
overwrite_short-made w me h bytes n (Pipe num) known stops = tt
overwrite_short-made w me h bytes n (Pair num side) known stops = tt

-- ---- one append
abbrev pub MakesAppend : World → List ℕ → Place → Stepped → Type 0
MakesAppend w bytes p s = AreMadeIn w (append_record w bytes (done_of (length bytes) s.reply) p)

tail-made : (w : World) (num : Num) (n : ℕ) (bytes : List ℕ) → is_some (finite.get w.files num) ≡ true → length (file_of w num) + length bytes ≤ 65536
    → 1 ≤ n → n ≤ length bytes → AreMadeIn w (Append num (length (file_of w num)) bytes n ∷ [])
tail-made w num n bytes there room some within = (record { there = there; size = refl; room = room; some = some; within = within }, tt)

append_at-made : (w : World) (me : Private) (h : ℕ) (bytes : List ℕ) (p : Place) → IsKnown w p → MakesAppend w bytes p (append_at w me h bytes p)
append_at-made w me h bytes (File num at) there =
    cond_both (length bytes == 0) _ _ (MakesAppend w bytes (File num at)) (λ none. made_none w _ (length bytes == 0) none) (λ some.
    cond_both (nat_lt 65536 (length (file_of w num) + length bytes)) _ _ (MakesAppend w bytes (File num at)) (λ _. tt) (λ room.
    made_one w _ (length bytes == 0) some
    (tail-made w num (length bytes) bytes there (ltb-false 65536 (length (file_of w num) + length bytes) room) (grind (arith, some)) (omega arith))))
append_at-made w me h bytes Vacant known = tt
append_at-made w me h bytes (Pipe num) known = tt
append_at-made w me h bytes (Pair num side) known = tt

-- an append that would be done has room
done-room : (w : World) (me : Private) (h : ℕ) (bytes : List ℕ) (num : Num) (at : ℕ) → 0 < length bytes
    → IsTrue (is_done (append_at w me h bytes (File num at)).reply)
    → length (file_of w num) + length bytes ≤ 65536
done-room w me h bytes num at some =
    let HasRoom : Stepped → Type 0 = λ s. IsTrue (is_done s.reply) → length (file_of w num) + length bytes ≤ 65536 in
    cond_both (length bytes == 0) _ _ HasRoom (λ none _. omega (arith, eqb-true (length bytes) 0 none)) (λ _.
    cond_both (nat_lt 65536 (length (file_of w num) + length bytes)) _ _ HasRoom (λ _ past. absurd (false≢true past)) (λ room _.
    ltb-false 65536 (length (file_of w num) + length bytes) room))

append_short-made : (w : World) (me : Private) (h : ℕ) (bytes : List ℕ) (n : ℕ) (p : Place) → IsKnown w p
    → ((n == 0) ≡ false → StopsBefore n bytes (append_at w me h bytes p)) → MakesAppend w bytes p (append_short w me (h, p) bytes n)
append_short-made w me h bytes n (File num at) there stops =
    cond_both (n == 0) _ _ (MakesAppend w bytes (File num at)) (λ none. made_none w _ (n == 0) none) (λ some.
    let before = (stops some).before in
    made_one w _ (n == 0) some
    (tail-made w num n bytes there (done-room w me h bytes num at (omega arith) (stops some).would) (grind (arith, some)) (omega arith)))
append_short-made w me h bytes n Vacant known stops = tt
append_short-made w me h bytes n (Pipe num) known stops = tt
append_short-made w me h bytes n (Pair num side) known stops = tt

-- ---- names, pipes and pairs
created-made : (w : World) (me : Private) (tx : ℕ) (name : List ℕ) (o : Option Num) (vacant : Option ℕ) → finite.get w.names name ≡ o
    → IsFree w (next_num me tx)
    → AreMadeIn w (create_record me tx name (create_step w me tx name (o, vacant)).reply)
created-made w me tx name (Some num) vacant e free = tt
created-made w me tx name None None e free = tt
created-made w me tx name None (Some h) e free = (record { unnamed = e; absent = free.file }, tt)

renamed-made : (w : World) (me : Private) (from to : List ℕ) (o there : Option Num) → finite.get w.names from ≡ o → finite.get w.names to ≡ there
    → AreMadeIn w (rename_record from to (rename_step w me from to (o, there)).reply)
renamed-made w me from to None there e f = tt
renamed-made w me from to (Some num) (Some other) e f = tt
renamed-made w me from to (Some num) None e f = (record { there = ap is_some e; vacant = f }, tt)

new_pipe-made : (w : World) (me : Private) (tx : ℕ) (vacant : Option ℕ) → IsFree w (next_num me tx)
    → AreMadeIn w (pipe_record me tx (new_pipe w me tx vacant).reply)
new_pipe-made w me tx None free = tt
new_pipe-made w me tx (Some h) free = (free.pipe, tt)

pair_made-made : (w : World) (me one : Private) (tx h : ℕ) (vacant : Option ℕ) → IsFree w (next_num me tx)
    → AreMadeIn w (pair_record me tx (pair_made w one tx h vacant).reply)
pair_made-made w me one tx h None free = tt
pair_made-made w me one tx h (Some g) free = (free.pair, tt)

new_pair-made : (w : World) (me : Private) (tx : ℕ) (vacant : Option ℕ) → IsFree w (next_num me tx)
    → AreMadeIn w (pair_record me tx (new_pair w me tx vacant).reply)
new_pair-made w me tx None free = tt
new_pair-made w me tx (Some h) free =
    let one = with_place me h (Pair (next_num me tx) 0) in pair_made-made w me one tx h (lowest_vacant one.places) free

-- ---- every call
abbrev pub MakesCall : World → Private → ℕ → Call → Stepped → Type 0
MakesCall w me tx c s = AreMadeIn w (recorded w me tx c s.reply)

fine-made : (w : World) (me : Private) (tx : ℕ) (c : Call) → IsSound w me tx → MakesCall w me tx c (fine w me tx c)
fine-made w me tx (call.XWriteOvr h bytes) sound = overwrite_at-made w me h bytes (place_of me.places h) (sound.handles h)
fine-made w me tx (call.XCreate name) sound =
    created-made w me tx name (finite.get w.names name) (lowest_vacant me.places) refl (next_free w me tx sound)
fine-made w me tx (call.XWriteSeq h bytes) sound = append_at-made w me h bytes (place_of me.places h) (sound.handles h)
fine-made w me tx (call.XRename from to) sound = renamed-made w me from to (finite.get w.names from) (finite.get w.names to) refl refl
fine-made w me tx call.XPipe sound = new_pipe-made w me tx (lowest_vacant me.places) (next_free w me tx sound)
fine-made w me tx call.XPair sound = new_pair-made w me tx (lowest_vacant me.places) (next_free w me tx sound)
fine-made w me tx _ sound = tt

faulty-made : (w : World) (me : Private) (tx : ℕ) (c : Call) (n : ℕ) → IsSound w me tx → IsTrue (fits w me tx c (answer.Fault n))
    → MakesCall w me tx c (faulty w me c n)
faulty-made w me tx (call.XWriteOvr h bytes) n sound fit =
    overwrite_short-made w me h bytes n (place_of me.places h) (sound.handles h) (stops w me tx (call.XWriteOvr h bytes) n fit)
faulty-made w me tx (call.XWriteSeq h bytes) n sound fit =
    append_short-made w me h bytes n (place_of me.places h) (sound.handles h) (stops w me tx (call.XWriteSeq h bytes) n fit)
faulty-made w me tx _ n sound fit = tt

refused-made : (w : World) (us : List Undo) → us ≡ [] → AreMadeIn w us
refused-made w us e = subst (AreMadeIn w) (sym e) tt

done-made : (w : World) (me : Private) (tx : ℕ) (c : Call) (a : Answer) → IsSound w me tx → IsTrue (fits w me tx c a)
    → MakesCall w me tx c (done w me tx c a)
done-made w me tx c answer.Fine sound fit = fine-made w me tx c sound
done-made w me tx c (answer.Fault n) sound fit = faulty-made w me tx c n sound fit
done-made w me tx c (answer.Undone n) sound fit = refused-made w _ (undone-none w me tx c n)

-- a call's record is made in the world before it
pub act-made : (w : World) (me : Private) (tx : ℕ) (c : Call) (a : Answer) → IsSound w me tx → IsTrue (fits w me tx c a)
    → MakesCall w me tx c (act w me tx c a)
act-made w me tx c a sound fit =
    let none = refusal-none w me tx c in
    act-cases w me tx c a (MakesCall w me tx c) (refused-made w _ none.bad_handle) (refused-made w _ none.too_big)
    (refused-made w _ none.too_much) (refused-made w _ none.bad_word) (done-made w me tx c a sound fit)
