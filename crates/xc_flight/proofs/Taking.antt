-- What a body took from pipes and pairs: it owns them, and made none of them.
use Rattle.std.proofs.Common.{◌≡◌, ℕ, ◌+◌, ◌<◌, ◌≤◌, ◌==◌, ◌⊎◌, inl, inr, Bool, true, false, Some, None, Option, List, [], ◌∷◌, ◌++◌, length, ap, sym}
use Rattle.std.proofs.Common.{◌∙◌, subst, refl, arith}
use Rattle.std.specs.Prelude.{All, unwrap_or, if◌then◌else◌}
use Rattle.std.specs.FinMap as finite
use Rattle.std.proofs.lemmas.List.{length-append}
use Rattle.std.proofs.lemmas.List.Elements.{All-nil, All-cons, All-head, All-tail, All-weaker, All-append}
use Rattle.xc_maps.proofs.Laws.{get-insert_same, get-insert_cases, num_total, num_exact}
use Rattle.xc_data.specs.declared.object.Num.{Num}
use Rattle.xc_data.specs.declared.call.Call.{Call}
use Rattle.xc_data.specs.declared.call.Call.TheVariants as call
use Rattle.xc_data.specs.declared.call.CallWithAnswer.{CallWithAnswer}
use Rattle.xc_data.specs.declared.call.Reply.{Reply}
use Rattle.xc_data.specs.declared.call.Reply.TheVariants as reply
use Rattle.xc_data.specs.declared.entry.KeptItem.{KeptItem}
use Rattle.xc_data.specs.declared.entry.KeptItem.TheVariants.{Bytes, Message}
use Rattle.xc_data.specs.declared.undo.Undo.{Undo}
use Rattle.xc_data.specs.declared.undo.Undo.TheVariants as undo
use Rattle.xc_data.specs.declared.private.Place.{Place}
use Rattle.xc_data.specs.declared.private.Place.TheVariants as place
use Rattle.xc_data.specs.declared.private.Private.{Private}
use Rattle.xc_data.specs.Private.{place_of}
use Rattle.xc_data.specs.Remaining.{objects_of}
use Rattle.xc_world.specs.World.{World, Pipe, Pair, pipe_of, pair_of, empty_pipe, empty_pair, waiting, with_waiting}
use Rattle.xc_world.specs.Run.{BodyResult, BlockState, runs_on, opens, bytes_taken, message_taken, taken_by, item_object, gives, given_back}
use Rattle.xc_world.specs.Trail.{recorded, with_effect, move_name, overwrite_record, append_record, create_record, rename_record, pipe_record, pair_record}
use Rattle.xc_world.specs.Ends.{with_remains}
use Rattle.xc_world.specs.Effects.{whole}
use Rattle.xc_world.specs.Sound.{IsSound, IsFree}
use Rattle.xc_world.specs.Laws.{AgreeAt}
use Rattle.xc_world.specs.Own.{IsNumbered}
use Rattle.xc_world.proofs.Laws.{remains_keep, body_returns, Any, BlockHolds, any_all, runs_keep, remains-words}
use Rattle.xc_flight.specs.Active.{Tx, Own, num}
use Rattle.xc_flight.specs.Flight.{ran, asked, Inside}
use Rattle.xc_flight.proofs.Basics.{own_decide}
use Rattle.xc_flight.proofs.Frames.{ran_whole, ran_keeps, trail_own, whole_of}

-- ---- bytes that were taken are some
abbrev pub Solid : KeptItem → Type 0
Solid (Bytes num bytes) = (length bytes == 0) ≡ false
Solid (Message num side bytes) = Unit {0}

bytes_solid : (p : Place) (bytes : List ℕ) → All Solid (bytes_taken p bytes)
bytes_solid (place.Pipe q) bytes = by_test (length bytes == 0) refl
  where
    by_test : (b : Bool) → (length bytes == 0) ≡ b → All Solid (if b then [] else Bytes q bytes ∷ [])
    by_test true e = All-nil Solid
    by_test false e = All-cons Solid (Bytes q bytes) [] e (All-nil Solid)
bytes_solid place.Vacant bytes = All-nil Solid
bytes_solid (place.File q at) bytes = All-nil Solid
bytes_solid (place.Pair q side) bytes = All-nil Solid

message_solid : (p : Place) (bytes : List ℕ) → All Solid (message_taken p bytes)
message_solid (place.Pair q side) bytes = All-cons Solid (Message q side bytes) [] tt (All-nil Solid)
message_solid place.Vacant bytes = All-nil Solid
message_solid (place.File q at) bytes = All-nil Solid
message_solid (place.Pipe q) bytes = All-nil Solid

taken_solid : (c : Call) (me : Private) (r : Reply) → All Solid (taken_by c me r)
taken_solid (call.XReadPipe h n) me (reply.Got bytes) = bytes_solid (place_of me.places h) bytes
taken_solid (call.XRecvmsg h) me (reply.Got bytes) = message_solid (place_of me.places h) bytes
taken_solid _ me _ = All-nil Solid

all_solid : (tx : ℕ) (b : BlockState) (asked : List CallWithAnswer) → BlockHolds tx Any (λ r. All Solid r.taken) b → All Solid (runs_on tx b asked).now.taken
all_solid tx b asked so =
    (runs_keep tx Any (λ r. All Solid r.taken) (record {
      plain = λ r c fit solid. All-append Solid r.taken _ solid (taken_solid c.call r.me _);
      back = λ s calls fit was is. was;
    }) b asked (any_all tx b asked) so).now

-- ---- how much is in the pipe or the pair of an item
abbrev pub amount_in : World → KeptItem → ℕ
amount_in w (Bytes num bytes) = length (pipe_of w num).held
amount_in w (Message num side bytes) = length (pair_of w num).first + length (pair_of w num).second

abbrev in_pipe : Option Pipe → ℕ
in_pipe o = length (unwrap_or o empty_pipe).held

abbrev in_pair : Option Pair → ℕ
in_pair o = length (unwrap_or o empty_pair).first + length (unwrap_or o empty_pair).second

-- the same in worlds that agree there
pub filled_alike : (w v : World) (k : KeptItem) → AgreeAt w v (item_object k) → amount_in w k ≡ amount_in v k
filled_alike w v (Bytes num bytes) e = ap in_pipe e
filled_alike w v (Message num side bytes) e = ap in_pair e

more_waiting : (p : Pair) (side : ℕ) (bytes : List ℕ)
    → length p.first + length p.second < length (with_waiting p side (bytes ∷ waiting p side)).first + length
    (with_waiting p side (bytes ∷ waiting p side)).second
more_waiting p side bytes = by_side (side == 0)
  where
    by_side : (b : Bool) → (let was = if b then p.first else p.second in
        let q = if b then record p { first = bytes ∷ was } else record p { second = bytes ∷ was } in
        length p.first + length p.second < length q.first + length q.second)
    by_side true = omega arith
    by_side false = omega arith

some_length : (bytes : List ℕ) → (length bytes == 0) ≡ false → 0 < length bytes
some_length [] e = cc e
some_length (b ∷ bytes) e = omega arith

gives_more : (w : World) (t : KeptItem) → Solid t → amount_in w t < amount_in (gives w t) t
gives_more w (Bytes num bytes) solid =
    let held = (pipe_of w num).held in
    let lt = some_length bytes solid in
    let sum = length-append bytes held in
    let put = ap in_pipe (get-insert_same num_total num_exact w.pipes num (record (pipe_of w num) { held = bytes ++ held })) in
    omega (arith, lt, sum, put)
gives_more w (Message num side bytes) solid =
    let lt = more_waiting (pair_of w num) side bytes in
    let put = ap in_pair (get-insert_same num_total num_exact w.pairs num (with_waiting (pair_of w num) side (bytes ∷ waiting (pair_of w num) side))) in
    omega (arith, lt, put)

gives_no_less : (w : World) (t k : KeptItem) → amount_in w k ≤ amount_in (gives w t) k
gives_no_less w (Bytes num bytes) (Bytes q more) =
    let held = (pipe_of w num).held in
    let sum = length-append bytes held in
    elim (get-insert_cases num_total num_exact w.pipes num q (record (pipe_of w num) { held = bytes ++ held })) [
      | inl same ↦ (let put = ap in_pipe same.1 in let one = ap (λ n. length (pipe_of w n).held) same.0 in omega (arith, sum, put, one))
      | inr e ↦ (let put = ap in_pipe e in omega (arith, put))
    ]
gives_no_less w (Bytes num bytes) (Message q side more) = omega arith
gives_no_less w (Message num side bytes) (Bytes q more) = omega arith
gives_no_less w (Message num side bytes) (Message q other more) =
    let lt = more_waiting (pair_of w num) side bytes in
    elim (get-insert_cases num_total num_exact w.pairs num q (with_waiting (pair_of w num) side (bytes ∷ waiting (pair_of w num) side))) [
      | inl same ↦ (let put = ap in_pair same.1 in let one = ap (λ n. length (pair_of w n).first + length (pair_of w n).second) same.0 in omega
          (arith, lt, put, one))
      | inr e ↦ (let put = ap in_pair e in omega (arith, put))
    ]

given_no_less : (w : World) (ts : List KeptItem) (k : KeptItem) → amount_in w k ≤ amount_in (given_back w ts) k
given_no_less w [] k = omega arith
given_no_less w (t ∷ ts) k = let a = given_no_less w ts k in let b = gives_no_less (given_back w ts) t k in omega (arith, a, b)

abbrev IsFuller : World → World → KeptItem → Type 0
IsFuller w v k = amount_in w k < amount_in v k

all_fuller : (w : World) (ts : List KeptItem) → All Solid ts → All (IsFuller w (given_back w ts)) ts
all_fuller w [] solid = All-nil (IsFuller w w)
all_fuller w (t ∷ ts) solid =
    let x = given_back w ts in
    All-cons (IsFuller w (gives x t)) t ts
    (let a = given_no_less w ts t in let b = gives_more x t (All-head Solid t ts solid) in omega (arith, a, b))
    (All-weaker (IsFuller w x) (IsFuller w (gives x t)) (λ k lt. let b = gives_no_less x t k in omega (arith, lt, b)) ts
    (all_fuller w ts (All-tail Solid t ts solid)))

-- ---- in what records leave, the pipes and pairs that they made are empty
moved_filled : (w : World) (from to : List ℕ) (o : Option Num) (k : KeptItem) → amount_in (move_name w from to o) k ≡ amount_in w k
moved_filled w from to None k = refl
moved_filled w from to (Some q) (Bytes num bytes) = refl
moved_filled w from to (Some q) (Message num side bytes) = refl

effect_empty : (w : World) (u : Undo) (j : ℕ) (k : KeptItem) → amount_in w k ≡ 0 → amount_in (with_effect w u j) k ≡ 0
effect_empty w (undo.Rename from to) j k e = moved_filled w from to (finite.get w.names from) k ∙ e
effect_empty w (undo.NewPipe n) j (Bytes num bytes) e = elim (get-insert_cases num_total num_exact w.pipes n num empty_pipe) [
  | inl same ↦ ap in_pipe same.1
  | inr other ↦ ap in_pipe other ∙ e
]
effect_empty w (undo.NewPair n) j (Message num side bytes) e = elim (get-insert_cases num_total num_exact w.pairs n num empty_pair) [
  | inl same ↦ ap in_pair same.1
  | inr other ↦ ap in_pair other ∙ e
]
effect_empty w (undo.NewPipe n) j (Message num side bytes) e = e
effect_empty w (undo.NewPair n) j (Bytes num bytes) e = e
effect_empty w (undo.Overwrite file at before after n) j (Bytes num bytes) e = e
effect_empty w (undo.Overwrite file at before after n) j (Message num side bytes) e = e
effect_empty w (undo.Append file from after n) j (Bytes num bytes) e = e
effect_empty w (undo.Append file from after n) j (Message num side bytes) e = e
effect_empty w (undo.Create name file) j (Bytes num bytes) e = e
effect_empty w (undo.Create name file) j (Message num side bytes) e = e

-- after several
pub remains_empty : (w : World) (us : List (Undo × ℕ)) (k : KeptItem) → amount_in w k ≡ 0 → amount_in (with_remains w us) k ≡ 0
remains_empty w [] k e = e
remains_empty w ((u, j) ∷ us) k e = remains_empty (with_effect w u j) us k (effect_empty w u j k e)

-- and what has a number that nothing has is empty
pub new_empty : (w : World) (n : ℕ) (k : KeptItem) → ((i : ℕ) → IsFree w (num n i)) → IsNumbered n (item_object k) → amount_in w k ≡ 0
new_empty w n (Bytes q bytes) free e = ap in_pipe (subst (λ tx. finite.get w.pipes (num tx q.k) ≡ None) (sym e) (free q.k).pipe)
new_empty w n (Message q side bytes) free e = ap in_pair (subst (λ tx. finite.get w.pairs (num tx q.k) ≡ None) (sym e) (free q.k).pair)

-- ---- its records make nothing, and speak of no pipe or pair, but under its own number
abbrev pub Coined : ℕ → Undo → Type 0
Coined tx (undo.Create name n) = n.tx ≡ tx
Coined tx (undo.NewPipe n) = n.tx ≡ tx
Coined tx (undo.NewPair n) = n.tx ≡ tx
Coined tx _ = Unit {0}

one_or_none : (tx : ℕ) (b : Bool) (u : Undo) → Coined tx u → All (Coined tx) (if b then [] else u ∷ [])
one_or_none tx true u coined = All-nil (Coined tx)
one_or_none tx false u coined = All-cons (Coined tx) u [] coined (All-nil (Coined tx))

overwrite_coined : (tx : ℕ) (w : World) (bytes : List ℕ) (n : ℕ) (p : Place) → All (Coined tx) (overwrite_record w bytes n p)
overwrite_coined tx w bytes n (place.File q at) = one_or_none tx (n == 0) (undo.Overwrite q at _ bytes n) tt
overwrite_coined tx w bytes n place.Vacant = All-nil (Coined tx)
overwrite_coined tx w bytes n (place.Pipe q) = All-nil (Coined tx)
overwrite_coined tx w bytes n (place.Pair q side) = All-nil (Coined tx)

append_coined : (tx : ℕ) (w : World) (bytes : List ℕ) (n : ℕ) (p : Place) → All (Coined tx) (append_record w bytes n p)
append_coined tx w bytes n (place.File q at) = one_or_none tx (n == 0) (undo.Append q _ bytes n) tt
append_coined tx w bytes n place.Vacant = All-nil (Coined tx)
append_coined tx w bytes n (place.Pipe q) = All-nil (Coined tx)
append_coined tx w bytes n (place.Pair q side) = All-nil (Coined tx)

create_coined : (me : Private) (tx : ℕ) (name : List ℕ) (r : Reply) → All (Coined tx) (create_record me tx name r)
create_coined me tx name (reply.Made h) = All-cons (Coined tx) (undo.Create name _) [] refl (All-nil (Coined tx))
create_coined me tx name _ = All-nil (Coined tx)

rename_coined : (tx : ℕ) (from to : List ℕ) (r : Reply) → All (Coined tx) (rename_record from to r)
rename_coined tx from to reply.Done = All-cons (Coined tx) (undo.Rename from to) [] tt (All-nil (Coined tx))
rename_coined tx from to _ = All-nil (Coined tx)

pipe_coined : (me : Private) (tx : ℕ) (r : Reply) → All (Coined tx) (pipe_record me tx r)
pipe_coined me tx (reply.Made h) = All-cons (Coined tx) (undo.NewPipe _) [] refl (All-nil (Coined tx))
pipe_coined me tx _ = All-nil (Coined tx)

pair_coined : (me : Private) (tx : ℕ) (r : Reply) → All (Coined tx) (pair_record me tx r)
pair_coined me tx (reply.MadePair h g) = All-cons (Coined tx) (undo.NewPair _) [] refl (All-nil (Coined tx))
pair_coined me tx _ = All-nil (Coined tx)

recorded_coined : (w : World) (me : Private) (tx : ℕ) (c : Call) (r : Reply) → All (Coined tx) (recorded w me tx c r)
recorded_coined w me tx (call.XWriteOvr h bytes) r = overwrite_coined tx w bytes _ (place_of me.places h)
recorded_coined w me tx (call.XWriteSeq h bytes) r = append_coined tx w bytes _ (place_of me.places h)
recorded_coined w me tx (call.XCreate name) r = create_coined me tx name r
recorded_coined w me tx (call.XRename from to) r = rename_coined tx from to r
recorded_coined w me tx call.XPipe r = pipe_coined me tx r
recorded_coined w me tx call.XPair r = pair_coined me tx r
recorded_coined w me tx _ r = All-nil (Coined tx)

all_coined : (tx : ℕ) (b : BlockState) (asked : List CallWithAnswer) → BlockHolds tx Any (λ r. All (Coined tx) r.trail) b
    → All (Coined tx) (runs_on tx b asked).now.trail
all_coined tx b asked so =
    (runs_keep tx Any (λ r. All (Coined tx) r.trail) (record {
      plain = λ r c fit coined. All-append (Coined tx) r.trail _ coined (recorded_coined r.world r.me tx c.call _);
      back = λ s calls fit was is. was;
    }) b asked (any_all tx b asked) so).now

-- of a whole body
pub trail_coined : (w : World) (t : Tx) → All (Coined t.number) (ran w t).trail
trail_coined w t = subst (λ (r : BodyResult). All (Coined t.number) r.trail) (ran_whole w t)
    (all_coined t.number (opens w t.began) (asked t) (record { now = All-nil (Coined t.number); saved = tt }))

-- ---- giving back, and words
-- giving back leaves the words
pub given_reworded : (x : World) (words : List ℕ) (ts : List KeptItem) → given_back (record x { words = words }) ts ≡ record (given_back x ts) { words = words }
given_reworded x words [] = refl
given_reworded x words (Bytes num bytes ∷ ts) = ap (λ v. gives v (Bytes num bytes)) (given_reworded x words ts)
given_reworded x words (Message num side bytes ∷ ts) = ap (λ v. gives v (Message num side bytes)) (given_reworded x words ts)

-- ---- a transaction's body, from a sound begin
module _ (w : World) (t : Tx) (i : Inside w t) (sound : IsSound w t.began t.number) where
  returns : given_back (ran w t).world (ran w t).taken ≡ record (with_remains w (whole (ran w t).trail)) { words = (ran w t).world.words }
  returns =
      subst (λ (r : BodyResult). given_back r.world r.taken ≡ record (with_remains w (whole r.trail)) { words = r.world.words }) (ran_whole w t)
      (body_returns w t.began t.number (asked t) sound i.fits)

  -- with what it took given back, its body's world is S with its records, the words aside
  pub returns_left : given_back (record (ran w t).world { words = w.words }) (ran w t).taken ≡ with_remains w (whole (ran w t).trail)
  returns_left =
      given_reworded (ran w t).world w.words (ran w t).taken ∙ ap (λ (x : World). record x { words = w.words }) returns ∙ sym
      (remains-words w w.words (whole (ran w t).trail))

  fuller : All (IsFuller (ran w t).world (with_remains w (whole (ran w t).trail))) (ran w t).taken
  fuller =
      let solid = subst (λ (r : BodyResult). All Solid r.taken) (ran_whole w t)
      (all_solid t.number (opens w t.began) (asked t) (record { now = All-nil Solid; saved = tt })) in
      All-weaker (IsFuller (ran w t).world (given_back (ran w t).world (ran w t).taken)) (IsFuller (ran w t).world (with_remains w (whole (ran w t).trail)))
      (λ k lt. same_filled k (ap (λ x. amount_in x k) returns) lt) (ran w t).taken (all_fuller (ran w t).world (ran w t).taken solid)
    where
      same_filled : (k : KeptItem)
          → amount_in (given_back (ran w t).world (ran w t).taken) k
          ≡ amount_in (record (with_remains w (whole (ran w t).trail)) { words = (ran w t).world.words }) k
          → IsFuller (ran w t).world (given_back (ran w t).world (ran w t).taken) k → IsFuller (ran w t).world (with_remains w (whole (ran w t).trail)) k
      same_filled (Bytes num bytes) e lt = omega (arith, e, lt)
      same_filled (Message num side bytes) e lt = omega (arith, e, lt)

  -- it owns what it took from
  pub taken_own : All (λ k. Own t (item_object k)) (ran w t).taken
  taken_own = All-weaker (IsFuller (ran w t).world (with_remains w (whole (ran w t).trail))) (λ k. Own t (item_object k))
      (λ k lt. one k lt (own_decide t (item_object k))) (ran w t).taken fuller
    where
      one : (k : KeptItem) → IsFuller (ran w t).world (with_remains w (whole (ran w t).trail)) k → Own t (item_object k) ⊎ (Own t (item_object k) → ⊥)
          → Own t (item_object k)
      one k lt (inl own) = own
      one k lt (inr lacks) =
          let here = filled_alike w (ran w t).world k ((ran_keeps w t i.covers).others (item_object k) lacks) in
          let us = whole (ran w t).trail in
          let there = filled_alike w (with_remains w us) k ((remains_keep (Own t) w us
          (whole_of (λ u. All (Own t) (objects_of u)) (ran w t).trail (trail_own w t i.covers))).others (item_object k) lacks) in
          absurd (omega (arith, lt, here, there))

  -- and has not made it
  pub taken_elsewhere : All (λ k. IsNumbered t.number (item_object k) → ⊥) (ran w t).taken
  taken_elsewhere =
      All-weaker (IsFuller (ran w t).world (with_remains w (whole (ran w t).trail))) (λ k. IsNumbered t.number (item_object k) → ⊥)
      (λ k lt e. let none = remains_empty w (whole (ran w t).trail) k (new_empty w t.number k i.new e) in omega (arith, lt, none)) (ran w t).taken fuller
