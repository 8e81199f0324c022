-- What was taken is apart from the records of a call.
use Rattle.std.proofs.Common.{◌≡◌, ◌≢◌, ℕ, true, Option, Some, None, is_some, unwrap_or, List, [], ◌∷◌, ◌++◌, ap}
use Rattle.std.proofs.Common.{sym, ◌∙◌, refl, arith}
use Rattle.std.specs.Prelude.{All, IsTrue, ◌==◌}
use Rattle.std.specs.FinMap as map
use Rattle.std.proofs.lemmas.List.Elements.{All-nil, All-cons, All-head, All-tail}
use Rattle.xc_data.specs.declared.object.Num.{Num}
use Rattle.xc_data.specs.declared.undo.Undo.{Undo}
use Rattle.xc_data.specs.declared.undo.Undo.TheVariants.{Append, Create, Rename, NewPipe, NewPair}
use Rattle.xc_data.specs.declared.undo.Undo.TheVariants as undo
use Rattle.xc_data.specs.declared.call.Call.{Call}
use Rattle.xc_data.specs.declared.call.Call.TheVariants as call
use Rattle.xc_data.specs.declared.call.Answer.{Answer}
use Rattle.xc_data.specs.declared.call.Reply.{Reply}
use Rattle.xc_data.specs.declared.call.Reply.TheVariants as reply
use Rattle.xc_data.specs.declared.call.LateCall.TheVariants.{WritePipe, Send}
use Rattle.xc_data.specs.declared.private.Place.{Place}
use Rattle.xc_data.specs.declared.private.Place.TheVariants as place
use Rattle.xc_data.specs.declared.private.Private.{Private}
use Rattle.xc_data.specs.Private.{place_of}
use Rattle.xc_maps.proofs.Laws.{get-insert_other, insert-insert_other, num_total, num_exact}
use Rattle.xc_world.specs.World.{World, Pipe, Pair, pipe_of, pair_of, empty_pipe, empty_pair, with_pipe, with_pair, waiting, with_waiting}
use Rattle.xc_world.specs.Act.{act}
use Rattle.xc_world.specs.Act.Names.{next_num}
use Rattle.xc_world.specs.Fits.{fits}
use Rattle.xc_world.specs.Sound.{IsSound, IsFree}
use Rattle.xc_world.specs.Trail.{overwrite_record, append_record, create_record, rename_record, pipe_record, pair_record, move_name, with_effect, recorded}
use Rattle.xc_world.specs.Ends.{with_remains}
use Rattle.xc_world.specs.Effects.{whole}
use Rattle.xc_world.proofs.SoundParts.{chosen_so}
use Rattle.xc_world.proofs.SoundReady.{act_keeps_ready}
use Rattle.xc_world.proofs.EffectsParts.{with_words}
use Rattle.xc_data.specs.declared.entry.KeptItem.{KeptItem}
use Rattle.xc_data.specs.declared.entry.KeptItem.TheVariants.{Bytes, Message}
use Rattle.xc_world.specs.Run.{gives, given_back}

-- ---- the object of what was taken is there
abbrev pub HasItsObject : World → KeptItem → Type 0
HasItsObject w (Bytes num bytes) = is_some (map.get w.pipes num) ≡ true
HasItsObject w (Message num side bytes) = is_some (map.get w.pairs num) ≡ true

-- what a call takes comes from a pipe or a pair that is there
pub stands_on : (w : World) (me : Private) (tx : ℕ) (c : Call) (a : Answer) (t : KeptItem) → IsTrue (fits w me tx c a) → IsSound w me tx → HasItsObject w t
    → HasItsObject (act w me tx c a).world t
stands_on w me tx c a (Bytes num bytes) fit sound there =
    (act_keeps_ready w me tx c a (WritePipe num []) fit sound (record { short = omega arith; there = there })).there
stands_on w me tx c a (Message num side bytes) fit sound there =
    (act_keeps_ready w me tx c a (Send num side []) fit sound (record { short = omega arith; there = there })).there

-- what is there reads as it is
pub pipe_there : (w : World) (num : Num) → is_some (map.get w.pipes num) ≡ true → map.get w.pipes num ≡ Some (pipe_of w num)
pipe_there w num there = by_case (map.get w.pipes num) there
  where
    by_case : (o : Option Pipe) → is_some o ≡ true → o ≡ Some (unwrap_or o empty_pipe)
    by_case None e = cc
    by_case (Some p) e = refl

-- a pair that is there reads as it is
pub pair_there : (w : World) (num : Num) → is_some (map.get w.pairs num) ≡ true → map.get w.pairs num ≡ Some (pair_of w num)
pair_there w num there = by_case (map.get w.pairs num) there
  where
    by_case : (o : Option Pair) → is_some o ≡ true → o ≡ Some (unwrap_or o empty_pair)
    by_case None e = cc
    by_case (Some p) e = refl

-- ---- giving back, and effects of records of other objects
abbrev pub Apart : Undo → KeptItem → Type 0
Apart (NewPipe n) (Bytes num bytes) = num ≢ n
Apart (NewPair n) (Message num side bytes) = num ≢ n
Apart u t = Unit {0}

gives_moved : (x : World) (t : KeptItem) (from to : List ℕ) (o : Option Num) → gives (move_name x from to o) t ≡ move_name (gives x t) from to o
gives_moved x (Bytes num bytes) from to None = refl
gives_moved x (Bytes num bytes) from to (Some n) = refl
gives_moved x (Message num side bytes) from to None = refl
gives_moved x (Message num side bytes) from to (Some n) = refl

pipe_beside : (x : World) (n num : Num) (p : Pipe) → num ≢ n → pipe_of (with_pipe x n p) num ≡ pipe_of x num
pipe_beside x n num p apart = ap (λ o. unwrap_or o empty_pipe) (get-insert_other num_total num_exact x.pipes n num p apart)

pair_beside : (x : World) (n num : Num) (p : Pair) → num ≢ n → pair_of (with_pair x n p) num ≡ pair_of x num
pair_beside x n num p apart = ap (λ o. unwrap_or o empty_pair) (get-insert_other num_total num_exact x.pairs n num p apart)

gives_effect : (x : World) (u : Undo) (k : ℕ) (t : KeptItem) → Apart u t → gives (with_effect x u k) t ≡ with_effect (gives x t) u k
gives_effect x (NewPipe n) k (Bytes num bytes) apart =
    let f : Pipe → Pipe = λ p. record p { held = bytes ++ p.held } in
    ap (λ p. with_pipe (with_pipe x n empty_pipe) num (f p)) (pipe_beside x n num empty_pipe apart)
    ∙ ap (λ m. record x { pipes = m }) (insert-insert_other num_total num_exact x.pipes n num empty_pipe (f (pipe_of x num)) (λ e. apart (sym e)))
gives_effect x (NewPair n) k (Message num side bytes) apart =
    let f : Pair → Pair = λ p. with_waiting p side (bytes ∷ waiting p side) in
    ap (λ p. with_pair (with_pair x n empty_pair) num (f p)) (pair_beside x n num empty_pair apart)
    ∙ ap (λ m. record x { pairs = m }) (insert-insert_other num_total num_exact x.pairs n num empty_pair (f (pair_of x num)) (λ e. apart (sym e)))
gives_effect x (NewPipe n) k (Message num side bytes) apart = refl
gives_effect x (NewPair n) k (Bytes num bytes) apart = refl
gives_effect x (undo.Overwrite file at before after n) k (Bytes num bytes) apart = refl
gives_effect x (undo.Overwrite file at before after n) k (Message num side bytes) apart = refl
gives_effect x (Append file from after n) k (Bytes num bytes) apart = refl
gives_effect x (Append file from after n) k (Message num side bytes) apart = refl
gives_effect x (Create name n) k (Bytes num bytes) apart = refl
gives_effect x (Create name n) k (Message num side bytes) apart = refl
gives_effect x (Rename from to) k (Bytes num bytes) apart = gives_moved x (Bytes num bytes) from to (map.get x.names from)
gives_effect x (Rename from to) k (Message num side bytes) apart = gives_moved x (Message num side bytes) from to (map.get x.names from)

gives_words : (x : World) (words : List ℕ) (t : KeptItem) → gives (with_words x words) t ≡ with_words (gives x t) words
gives_words x words (Bytes num bytes) = refl
gives_words x words (Message num side bytes) = refl

-- an item that was taken is apart from each record
abbrev pub AllApart : List Undo → KeptItem → Type 0
AllApart us t = All (λ u. Apart u t) us

gives_remains : (x : World) (us : List Undo) (t : KeptItem) → AllApart us t → gives (with_remains x (whole us)) t ≡ with_remains (gives x t) (whole us)
gives_remains x [] t apart = refl
gives_remains x (u ∷ us) t apart =
    let P : Undo → Type 0 = λ v. Apart v t in
    gives_remains (with_effect x u 0) us t (All-tail P u us apart) ∙ ap (λ y. with_remains y (whole us)) (gives_effect x u 0 t (All-head P u us apart))

-- giving back leaves the words
pub given_with_words : (x : World) (words : List ℕ) (ts : List KeptItem) → given_back (with_words x words) ts ≡ with_words (given_back x ts) words
given_with_words x words [] = refl
given_with_words x words (t ∷ ts) = ap (λ y. gives y t) (given_with_words x words ts) ∙ gives_words (given_back x ts) words t

-- giving back and the effects of records of other objects can change places
pub given_remains : (x : World) (us : List Undo) (ts : List KeptItem) → All (AllApart us) ts
    → given_back (with_remains x (whole us)) ts ≡ with_remains (given_back x ts) (whole us)
given_remains x us [] apart = refl
given_remains x us (t ∷ ts) apart =
    ap (λ y. gives y t) (given_remains x us ts (All-tail (AllApart us) t ts apart)) ∙ gives_remains (given_back x ts) us t (All-head (AllApart us) t ts apart)

-- two lists are given back one after the other
pub given_append : (x : World) (ts us : List KeptItem) → given_back x (ts ++ us) ≡ given_back (given_back x us) ts
given_append x [] us = refl
given_append x (t ∷ ts) us = ap (λ y. gives y t) (given_append x ts us)

-- ---- a record of a call is apart from what was taken, since its number is new
nothing_apart : (t : KeptItem) → AllApart [] t
nothing_apart t = All-nil (λ u. Apart u t)

one_apart : (t : KeptItem) (u : Undo) → Apart u t → AllApart (u ∷ []) t
one_apart t u apart = All-cons (λ v. Apart v t) u [] apart (nothing_apart t)

new_pipe_apart : (w : World) (n : Num) (t : KeptItem) → IsFree w n → HasItsObject w t → Apart (NewPipe n) t
new_pipe_apart w n (Bytes num bytes) free there =
    λ e. let bad : is_some {T = Pipe} None ≡ true = ap is_some (sym free.pipe ∙ ap (map.get w.pipes) (sym e)) ∙ there in cc
new_pipe_apart w n (Message num side bytes) free there = tt

new_pair_apart : (w : World) (n : Num) (t : KeptItem) → IsFree w n → HasItsObject w t → Apart (NewPair n) t
new_pair_apart w n (Message num side bytes) free there =
    λ e. let bad : is_some {T = Pair} None ≡ true = ap is_some (sym free.pair ∙ ap (map.get w.pairs) (sym e)) ∙ there in cc
new_pair_apart w n (Bytes num bytes) free there = tt

overwrite_apart : (w : World) (bytes : List ℕ) (n : ℕ) (p : Place) (t : KeptItem) → AllApart (overwrite_record w bytes n p) t
overwrite_apart w bytes n (place.File num at) t = chosen_so (λ us. AllApart us t) (n == 0) _ _ (λ _. nothing_apart t) (λ _. one_apart t _ tt)
overwrite_apart w bytes n place.Vacant t = nothing_apart t
overwrite_apart w bytes n (place.Pipe num) t = nothing_apart t
overwrite_apart w bytes n (place.Pair num side) t = nothing_apart t

append_apart : (w : World) (bytes : List ℕ) (n : ℕ) (p : Place) (t : KeptItem) → AllApart (append_record w bytes n p) t
append_apart w bytes n (place.File num at) t = chosen_so (λ us. AllApart us t) (n == 0) _ _ (λ _. nothing_apart t) (λ _. one_apart t _ tt)
append_apart w bytes n place.Vacant t = nothing_apart t
append_apart w bytes n (place.Pipe num) t = nothing_apart t
append_apart w bytes n (place.Pair num side) t = nothing_apart t

create_apart : (me : Private) (tx : ℕ) (name : List ℕ) (r : Reply) (t : KeptItem) → AllApart (create_record me tx name r) t
create_apart me tx name (reply.Made h) t = one_apart t _ tt
create_apart me tx name _ t = nothing_apart t

rename_apart : (from to : List ℕ) (r : Reply) (t : KeptItem) → AllApart (rename_record from to r) t
rename_apart from to reply.Done t = one_apart t _ tt
rename_apart from to _ t = nothing_apart t

pipe_apart : (w : World) (me : Private) (tx : ℕ) (r : Reply) (t : KeptItem) → IsFree w (next_num me tx) → HasItsObject w t → AllApart (pipe_record me tx r) t
pipe_apart w me tx (reply.Made h) t free there = one_apart t _ (new_pipe_apart w (next_num me tx) t free there)
pipe_apart w me tx _ t free there = nothing_apart t

pair_apart : (w : World) (me : Private) (tx : ℕ) (r : Reply) (t : KeptItem) → IsFree w (next_num me tx) → HasItsObject w t → AllApart (pair_record me tx r) t
pair_apart w me tx (reply.MadePair h g) t free there = one_apart t _ (new_pair_apart w (next_num me tx) t free there)
pair_apart w me tx _ t free there = nothing_apart t

-- the records of a call are apart from what was taken
pub recorded_apart : (w : World) (me : Private) (tx : ℕ) (c : Call) (r : Reply) (t : KeptItem) → IsFree w (next_num me tx) → HasItsObject w t
    → AllApart (recorded w me tx c r) t
recorded_apart w me tx (call.XWriteOvr h bytes) r t free there = overwrite_apart w bytes _ (place_of me.places h) t
recorded_apart w me tx (call.XWriteSeq h bytes) r t free there = append_apart w bytes _ (place_of me.places h) t
recorded_apart w me tx (call.XCreate name) r t free there = create_apart me tx name r t
recorded_apart w me tx (call.XRename from to) r t free there = rename_apart from to r t
recorded_apart w me tx call.XPipe r t free there = pipe_apart w me tx r t free there
recorded_apart w me tx call.XPair r t free there = pair_apart w me tx r t free there
recorded_apart w me tx _ r t free there = nothing_apart t
