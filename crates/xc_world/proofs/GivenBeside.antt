-- A step goes on beside data that is given back to objects which it doesn't speak of.
use Rattle.std.proofs.Common.{◌≡◌, ◌≢◌, ◌⊎◌, inl, inr, ℕ, Bool, true, false, List, [], ◌∷◌, ◌++◌, ap, sym, ◌∙◌, subst, refl, length}
use Rattle.std.specs.Prelude.{All, Contains, ◌||◌, not, nat_eq, if◌then◌else◌}
use Rattle.std.specs.Cmp.Lexicographic.{pointwise}
use Rattle.std.proofs.lemmas.List.Elements.{All-nil, All-cons, All-append, All-contains, All-contains_itself, All-weaker, Contains-append_left}
use Rattle.xc_data.specs.Private.{place_of}
use Rattle.xc_data.specs.declared.object.Num.{Num}
use Rattle.xc_data.specs.declared.object.Object.{Object}
use Rattle.xc_data.specs.declared.object.Object.TheVariants as object
use Rattle.xc_data.specs.declared.call.Call.{Call}
use Rattle.xc_data.specs.declared.call.Call.TheVariants as call
use Rattle.xc_data.specs.declared.call.Answer.{Answer}
use Rattle.xc_data.specs.declared.call.LateCall.{LateCall}
use Rattle.xc_data.specs.declared.call.LateAnswer.{LateAnswer}
use Rattle.xc_data.specs.declared.private.Place.{Place}
use Rattle.xc_data.specs.declared.private.Place.TheVariants as place
use Rattle.xc_data.specs.declared.private.Private.{Private}
use Rattle.xc_data.specs.declared.entry.KeptItem.{KeptItem}
use Rattle.xc_data.specs.declared.entry.KeptItem.TheVariants.{Bytes, Message}
use Rattle.xc_data.specs.declared.undo.Undo.{Undo}
use Rattle.xc_data.specs.declared.undo.UndoEnd.{UndoEnd}
use Rattle.xc_world.specs.World.{World}
use Rattle.xc_world.specs.Act.{act}
use Rattle.xc_world.specs.Act.Step.{step_to}
use Rattle.xc_world.specs.Beside.{AreElsewhere, spoken_of, with_given, end_with_given, is_on_data}
use Rattle.xc_world.specs.Act.Names.{next_num}
use Rattle.xc_world.specs.Checks.{is_bad_handle, is_bad_word, is_file, is_refused, is_too_big, is_too_much}
use Rattle.xc_world.specs.Effects.{undone_to}
use Rattle.xc_data.specs.Remaining.{objects_of}
use Rattle.xc_world.specs.Fits.{fits}
use Rattle.xc_world.specs.Late.{ends, late}
use Rattle.xc_world.specs.Laws.{AgreeAt, GoAlike, late_objects}
use Rattle.xc_world.specs.Run.{given_back, item_object}
use Rattle.xc_world.specs.Touch.{touch, made_by, object_at, objects_of_call}
use Rattle.xc_world.specs.Trail.{recorded}
use Rattle.xc_world.proofs.Calls.{fits_alike, recorded_alike}
use Rattle.xc_world.proofs.GivenBack.{given_alike, given_away, given_blocks, given_words}
use Rattle.xc_world.proofs.Local.{act_alike}
use Rattle.xc_world.proofs.LocalLate.{late_alike}
use Rattle.xc_world.proofs.Objects.{agree_back, agree_on, decide, worlds_same}
use Rattle.xc_world.proofs.Records.{undone_to_alike}

-- items that are of none of these objects are of none in particular
pub each_away : (objects : List Object) (o : Object) → Contains objects o → (items : List KeptItem) → AreElsewhere objects items
    → All (λ item. item_object item ≢ o) items
each_away objects o at items elsewhere = All-weaker (λ item. Contains objects (item_object item) → ⊥) (λ item. item_object item ≢ o)
    (λ item lacks same. lacks (subst (Contains objects) (sym same) at)) items elsewhere

-- the objects are as they were where the items are given back
agree_beside : (objects : List Object) (w : World) (items : List KeptItem) → AreElsewhere objects items → All (AgreeAt w (given_back w items)) objects
agree_beside objects w items elsewhere = All-weaker (Contains objects) (AgreeAt w (given_back w items))
    (λ o at. given_away w items o (each_away objects o at items elsewhere)) objects (All-contains_itself objects)

-- what two steps gave that spoke of these objects alone, one of them beside the items, differs in the items alone
go_beside : (objects : List Object) (w x y : World) (items : List KeptItem) → GoAlike objects w (given_back w items) x y → AreElsewhere objects items
    → y ≡ given_back x items
go_beside objects w x y items alike elsewhere =
    worlds_same y (given_back x items) (λ o. each o (decide objects o))
    (alike.right.blocks ∙ given_blocks w items ∙ sym alike.left.blocks ∙ sym (given_blocks x items))
  where
    each : (o : Object) → Contains objects o ⊎ (Contains objects o → ⊥) → AgreeAt y (given_back x items) o
    each o (inl at) =
        agree_on y x (given_back x items) o (agree_back x y o (All-contains (AgreeAt x y) objects o alike.agree at))
        (given_away x items o (each_away objects o at items elsewhere))
    each o (inr lacks) =
        agree_on y (given_back w items) (given_back x items) o (agree_back (given_back w items) y o (alike.right.others o lacks))
        (given_alike w x items o (alike.left.others o lacks))

-- items that are of none of some objects are of none of fewer
fewer : (front back : List Object) (items : List KeptItem) → AreElsewhere (front ++ back) items → AreElsewhere front items
fewer front back items elsewhere = All-weaker (λ item. Contains (front ++ back) (item_object item) → ⊥) (λ item. Contains front (item_object item) → ⊥)
    (λ item lacks at. lacks (Contains-append_left front back (item_object item) at)) items elsewhere

-- ---- a call
module _ (w : World) (items : List KeptItem) (me : Private) (tx : ℕ) (c : Call) (elsewhere : AreElsewhere (spoken_of c me tx (length w.words)) items) where
  abbrev there : World
  there = given_back w items

  as_many : length w.words ≡ length there.words
  as_many = sym (ap length (given_words w items))

  agree : All (AgreeAt w there) (spoken_of c me tx (length w.words))
  agree = agree_beside (spoken_of c me tx (length w.words)) w items elsewhere

  -- it is done as without them
  pub act_beside : (answer : Answer) → act there me tx c answer ≡ with_given (act w me tx c answer) items
  act_beside answer =
      let alike = act_alike w there me tx c answer as_many agree in
      let world = go_beside (spoken_of c me tx (length w.words)) w (act w me tx c answer).world (act there me tx c answer).world items alike.worlds elsewhere in
      λ i. step_to (world i) (sym alike.me i) (sym alike.reply i)

  -- the same answers fit it
  pub fits_beside : (answer : Answer) → fits w me tx c answer ≡ fits there me tx c answer
  fits_beside answer = fits_alike w there me tx c answer as_many agree

  -- and it leaves the same record
  pub recorded_beside : (answer : Answer) → recorded w me tx c (act w me tx c answer).reply ≡ recorded there me tx c (act w me tx c answer).reply
  recorded_beside answer = recorded_alike w there me tx c answer
      (agree_beside (touch c me (length w.words)) w items (fewer (touch c me (length w.words)) (made_by c me tx) items elsewhere))

-- ---- a late call
module _ (w : World) (items : List KeptItem) (c : LateCall) (elsewhere : AreElsewhere (late_objects c) items) where
  -- it ends as without them
  pub late_beside : (answer : LateAnswer) → late (given_back w items) c answer ≡ end_with_given (late w c answer) items
  late_beside answer =
      let alike = late_alike w (given_back w items) c answer (sym (given_blocks w items)) (agree_beside (late_objects c) w items elsewhere) in
      let world = go_beside (late_objects c) w (late w c answer).world (late (given_back w items) c answer).world items alike.worlds elsewhere in
      λ i. ends (world i) (sym alike.end i)

-- ---- a compensation
pub undone_beside : (w : World) (items : List KeptItem) (u : Undo) (end : UndoEnd) → AreElsewhere (objects_of u) items
    → undone_to (given_back w items) u end ≡ given_back (undone_to w u end) items
undone_beside w items u end elsewhere =
    go_beside (objects_of u) w (undone_to w u end) (undone_to (given_back w items) u end) items
    (undone_to_alike w (given_back w items) u end (agree_beside (objects_of u) w items elsewhere)) elsewhere

-- ---- calls that speak of no pipe and no pair
-- this object is neither
abbrev pub HasNoData : Object → Type 0
HasNoData o = (item : KeptItem) → item_object item ≢ o

-- objects that are neither have no such item
pub no_data_elsewhere : (objects : List Object) (items : List KeptItem) → All HasNoData objects → AreElsewhere objects items
no_data_elsewhere objects items none = All-weaker (λ item. Unit {0}) (λ item. Contains objects (item_object item) → ⊥)
    (λ item u at. All-contains HasNoData objects (item_object item) none at item refl) items (everywhere items)
  where
    everywhere : (items : List KeptItem) → All (λ item. Unit {0}) items
    everywhere [] = All-nil (λ (item : KeptItem). Unit {0})
    everywhere (item ∷ items) = All-cons (λ (item : KeptItem). Unit {0}) item items tt (everywhere items)

-- a word has no data, nor has a name or a file
pub word_has_none : (n : ℕ) → HasNoData (object.Word n)
word_has_none n (Bytes num bytes) same = cc same
word_has_none n (Message num side bytes) same = cc same

-- a name has none
pub name_has_none : (name : List ℕ) → HasNoData (object.Name name)
name_has_none name (Bytes num bytes) same = cc same
name_has_none name (Message num side bytes) same = cc same

-- a file has none
pub file_has_none : (n : Num) → HasNoData (object.File n)
file_has_none n (Bytes num bytes) same = cc same
file_has_none n (Message num side bytes) same = cc same

jobs_have_none : HasNoData object.Jobs
jobs_have_none (Bytes num bytes) same = cc same
jobs_have_none (Message num side bytes) same = cc same

-- one such object alone
pub one_object : (o : Object) → HasNoData o → All HasNoData (o ∷ [])
one_object o none = All-cons HasNoData o [] none (All-nil HasNoData)

at_file : (p : Place) → not (is_file p) ≡ false → All HasNoData (object_at p)
at_file (place.File num at) is = one_object (object.File num) (file_has_none num)
at_file place.Vacant is = cc is
at_file (place.Pipe num) is = cc is
at_file (place.Pair num side) is = cc is

both_names : (b : Bool) (from to : List ℕ) → All HasNoData (if b then object.Name from ∷ [] else object.Name from ∷ object.Name to ∷ [])
both_names true from to = one_object (object.Name from) (name_has_none from)
both_names false from to = All-cons HasNoData (object.Name from) (object.Name to ∷ []) (name_has_none from) (one_object (object.Name to) (name_has_none to))

unless : (b : Bool) (objects : List Object) → (b ≡ false → All HasNoData objects) → All HasNoData (if b then [] else objects)
unless true objects none = All-nil HasNoData
unless false objects none = none refl

first_false : (a b : Bool) → (a || b) ≡ false → a ≡ false
first_false false b is = refl
first_false true b is = cc is

-- what a call touches that is on no pipe and no pair
module _ (me : Private) (words : ℕ) where
  touched_by : (c : Call) → All HasNoData (objects_of_call c me) → All HasNoData (touch c me words)
  touched_by c none = unless (is_refused c me words) (objects_of_call c me) (λ passed. none)

  touched_file : (c : Call) (h : ℕ) → is_bad_handle c me ≡ not (is_file (place_of me.places h)) → objects_of_call c me ≡ object_at (place_of me.places h)
      → All HasNoData (touch c me words)
  touched_file c h handle objects = unless (is_refused c me words) (objects_of_call c me)
      (λ passed. subst (All HasNoData) (sym objects) (at_file (place_of me.places h) (sym handle ∙ first_false (is_bad_handle c me) (is_too_big c)
      (first_false (is_bad_handle c me || is_too_big c) (is_too_much c me)
      (first_false (is_bad_handle c me || is_too_big c || is_too_much c me) (is_bad_word c words) passed)))))

  touches_no_data : (c : Call) → is_on_data c ≡ false → All HasNoData (touch c me words)
  touches_no_data (call.Load at) is = touched_by (call.Load at) (one_object (object.Word at) (word_has_none at))
  touches_no_data (call.Store at value) is = touched_by (call.Store at value) (one_object (object.Word at) (word_has_none at))
  touches_no_data (call.XOpen name) is = touched_by (call.XOpen name) (one_object (object.Name name) (name_has_none name))
  touches_no_data (call.XCreate name) is = touched_by (call.XCreate name) (one_object (object.Name name) (name_has_none name))
  touches_no_data (call.XRead h n) is = touched_file (call.XRead h n) h refl refl
  touches_no_data (call.XWriteOvr h bytes) is = touched_file (call.XWriteOvr h bytes) h refl refl
  touches_no_data (call.XWriteSeq h bytes) is = touched_file (call.XWriteSeq h bytes) h refl refl
  touches_no_data (call.XSeek h to) is = touched_by (call.XSeek h to) (All-nil HasNoData)
  touches_no_data (call.XLen h) is = touched_file (call.XLen h) h refl refl
  touches_no_data (call.XRename from to) is = touched_by (call.XRename from to) (both_names (pointwise nat_eq from to) from to)
  touches_no_data (call.XClose h) is = touched_by (call.XClose h) (All-nil HasNoData)
  touches_no_data (call.XUnlink name slot) is = touched_by (call.XUnlink name slot) (one_object (object.Name name) (name_has_none name))
  touches_no_data (call.XSync h slot) is = touched_file (call.XSync h slot) h refl refl
  touches_no_data (call.XThreadCreate body slot) is = touched_by (call.XThreadCreate body slot) (one_object object.Jobs jobs_have_none)
  touches_no_data call.Save is = touched_by call.Save (All-nil HasNoData)
  touches_no_data call.Keep is = touched_by call.Keep (All-nil HasNoData)
  touches_no_data call.Back is = touched_by call.Back (All-nil HasNoData)
  touches_no_data call.XPipe is = cc is
  touches_no_data (call.XReadPipe h n) is = cc is
  touches_no_data call.XPair is = cc is
  touches_no_data (call.XRecvmsg h) is = cc is
  touches_no_data (call.XWritePipe h bytes slot) is = cc is
  touches_no_data (call.XShutdown h slot) is = cc is
  touches_no_data (call.XSendmsg h bytes slot) is = cc is

  makes_no_data : (tx : ℕ) (c : Call) → is_on_data c ≡ false → All HasNoData (made_by c me tx)
  makes_no_data tx (call.XCreate name) is = one_object (object.File (next_num me tx)) (file_has_none (next_num me tx))
  makes_no_data tx call.XPipe is = cc is
  makes_no_data tx call.XPair is = cc is
  makes_no_data tx (call.XReadPipe h n) is = cc is
  makes_no_data tx (call.XRecvmsg h) is = cc is
  makes_no_data tx (call.XWritePipe h bytes slot) is = cc is
  makes_no_data tx (call.XShutdown h slot) is = cc is
  makes_no_data tx (call.XSendmsg h bytes slot) is = cc is
  makes_no_data tx _ is = All-nil HasNoData

  -- so it speaks of none
  pub no_data_spoken : (tx : ℕ) (c : Call) → is_on_data c ≡ false → All HasNoData (spoken_of c me tx words)
  no_data_spoken tx c is = All-append HasNoData (touch c me words) (made_by c me tx) (touches_no_data c is) (makes_no_data tx c is)

  -- and whatever is given back is elsewhere
  pub data_elsewhere : (tx : ℕ) (c : Call) (items : List KeptItem) → is_on_data c ≡ false → AreElsewhere (spoken_of c me tx words) items
  data_elsewhere tx c items is = no_data_elsewhere (spoken_of c me tx words) items (no_data_spoken tx c is)
