-- Records that share no object: their effects go in either order, and each leaves what the other asks of its world.
use Rattle.std.proofs.Common.{◌≡◌, inl, inr, ℕ, ◌+◌, ◌≤◌, Bool, true, false, Option, Some, None, is_some, unwrap_or, List, [], ◌∷◌, length, take, drop}
use Rattle.std.proofs.Common.{refl, ap, sym, ◌∙◌, subst}
use Rattle.std.specs.Prelude.{All, Contains, if◌then◌else◌}
use Rattle.std.specs.FinMap as finite
use Rattle.std.specs.List.{list_any, AllByRecursion}
use Rattle.std.proofs.lemmas.Bool.{false≢true}
use Rattle.std.proofs.lemmas.List.Elements.{All-head, All-tail, All-weaker}
use Rattle.std.proofs.lemmas.List.Folds.{list_any_at}
use Rattle.xc_data.specs.declared.object.Object.{Object}
use Rattle.xc_data.specs.declared.object.Object.TheVariants as object
use Rattle.xc_data.specs.declared.undo.Undo.{Undo}
use Rattle.xc_data.specs.declared.undo.Undo.TheVariants.{Overwrite, Append, Create, Rename, NewPipe, NewPair}
use Rattle.xc_data.specs.declared.undo.UndoEnd.TheVariants.{Undone, Failed, Blocked}
use Rattle.xc_data.specs.Remaining.{objects_of}
use Rattle.xc_data.specs.Claims.{is_object}
use Rattle.xc_world.specs.World.{World}
use Rattle.xc_world.specs.Laws.{AgreeAt}
use Rattle.xc_world.specs.Trail.{with_effect}
use Rattle.xc_world.specs.Ends.{Ending, share_object, blocker, remains, with_remains}
use Rattle.xc_world.specs.Effects.{IsMadeIn}
use Rattle.xc_world.proofs.Objects.{found, decide, agree_back, agree_on, worlds_same}
use Rattle.xc_world.proofs.Calls.{agreed, still_agree}
use Rattle.xc_world.proofs.Records.{effect_alike, effect_only}

-- ---- no object is spoken of by both
abbrev pub ShareNoObject : Undo → Undo → Type 0
ShareNoObject u q = (o : Object) → Contains (objects_of u) o → Contains (objects_of q) o → ⊥

unshared : (u q : Undo) → share_object u q ≡ false → ShareNoObject u q
unshared u q apart o mine its =
    let test : Object → Bool = λ p. list_any (is_object p) (objects_of q) in
    false≢true
    (sym apart ∙ list_any_at test (objects_of u) mine.0 o mine.1 (subst (λ p. test p ≡ true) (sym mine.2) (found (objects_of q) o its)))

-- what one speaks of is as before the other's effect
untouched : (w : World) (u q : Undo) (j : ℕ) → ShareNoObject u q → All (AgreeAt w (with_effect w q j)) (objects_of u)
untouched w u q j apart = agreed (λ o. Contains (objects_of q) o → ⊥) w (with_effect w q j) (objects_of u) (effect_only w q j).others apart

-- ---- their effects
-- both orders agree outside the objects of the second record
outside : (w : World) (u q : Undo) (k j : ℕ) → ShareNoObject u q → (o : Object) → (Contains (objects_of q) o → ⊥)
    → AgreeAt (with_effect (with_effect w u k) q j) (with_effect (with_effect w q j) u k) o
outside w u q k j apart o lacks =
    let x = with_effect w u k in
    let y = with_effect w q j in
    agree_on (with_effect x q j) x (with_effect y u k) o (agree_back x (with_effect x q j) o ((effect_only x q j).others o lacks))
    (still_agree (λ p. Contains (objects_of q) p → ⊥) w y x (with_effect y u k) (objects_of u) (effect_alike w y u k (untouched w u q j apart))
    (effect_only w q j).others o lacks)

in_either_order : (w : World) (u q : Undo) (k j : ℕ) → ShareNoObject u q
    → with_effect (with_effect w u k) q j ≡ with_effect (with_effect w q j) u k
in_either_order w u q k j apart =
    let x = with_effect w u k in
    let y = with_effect w q j in
    worlds_same (with_effect x q j) (with_effect y u k)
    (λ o. elim (decide (objects_of q) o) [
      | inl its ↦ agree_back (with_effect y u k) (with_effect x q j) o
          (outside w q u j k (λ p a b. apart p b a) o (λ mine. apart o mine its))
      | inr lacks ↦ outside w u q k j apart o lacks
    ])
    ((effect_only x q j).blocks ∙ ((effect_only w u k).blocks ∙ sym ((effect_only y u k).blocks ∙ (effect_only w q j).blocks)))

-- ---- what each asks of its world
-- a world has the same at an object as another, or lacks a pipe or a pair where that does
abbrev pub LeavesRoom : World → World → Object → Type 0
LeavesRoom v w (object.Name name) = finite.get v.names name ≡ finite.get w.names name
LeavesRoom v w (object.File num) = finite.get v.files num ≡ finite.get w.files num
LeavesRoom v w (object.Pipe num) = finite.get v.pipes num ≡ None → finite.get w.pipes num ≡ None
LeavesRoom v w (object.Pair num) = finite.get v.pairs num ≡ None → finite.get w.pairs num ≡ None
LeavesRoom v w _ = Unit {0}

-- a record that is made in one world is made in another that leaves room for its objects
pub made_there : (v w : World) (u : Undo) → All (LeavesRoom v w) (objects_of u) → IsMadeIn v u → IsMadeIn w u
made_there v w (Overwrite file at before after n) room made =
    let e : finite.get v.files file ≡ finite.get w.files file = All-head (LeavesRoom v w) (object.File file) [] room in
    record {
      there = subst (λ (o : Option (List ℕ)). is_some o ≡ true) e made.there;
      inside = subst (λ (o : Option (List ℕ)). at + length after ≤ length (unwrap_or o [])) e made.inside;
      old = subst (λ (o : Option (List ℕ)). before ≡ take (length after) (drop at (unwrap_or o []))) e made.old;
      some = made.some;
      within = made.within;
    }
made_there v w (Append file from after n) room made =
    let e : finite.get v.files file ≡ finite.get w.files file = All-head (LeavesRoom v w) (object.File file) [] room in
    record {
      there = subst (λ (o : Option (List ℕ)). is_some o ≡ true) e made.there;
      size = subst (λ (o : Option (List ℕ)). length (unwrap_or o []) ≡ from) e made.size;
      room = made.room;
      some = made.some;
      within = made.within;
    }
made_there v w (Create name num) room made =
    let files = object.File num ∷ [] in
    record {
      unnamed = sym (All-head (LeavesRoom v w) (object.Name name) files room) ∙ made.unnamed;
      absent = sym (All-head (LeavesRoom v w) (object.File num) [] (All-tail (LeavesRoom v w) (object.Name name) files room)) ∙ made.absent;
    }
made_there v w (Rename from to) room made =
    let new = object.Name to ∷ [] in
    record {
      there = subst (λ o. is_some o ≡ true) (All-head (LeavesRoom v w) (object.Name from) new room) made.there;
      vacant = sym (All-head (LeavesRoom v w) (object.Name to) [] (All-tail (LeavesRoom v w) (object.Name from) new room)) ∙ made.vacant;
    }
made_there v w (NewPipe num) room made = All-head (LeavesRoom v w) (object.Pipe num) [] room made
made_there v w (NewPair num) room made = All-head (LeavesRoom v w) (object.Pair num) [] room made

room_by : (v w : World) (o : Object) → AgreeAt v w o → LeavesRoom v w o
room_by v w (object.Name name) e = e
room_by v w (object.File num) e = e
room_by v w (object.Pipe num) e = λ none. sym e ∙ none
room_by v w (object.Pair num) e = λ none. sym e ∙ none
room_by v w (object.Word at) e = tt
room_by v w object.Jobs e = tt

still_made : (w : World) (u q : Undo) (j : ℕ) → ShareNoObject u q → IsMadeIn w u → IsMadeIn (with_effect w q j) u
still_made w u q j apart =
    let v = with_effect w q j in
    made_there w v u (All-weaker (AgreeAt w v) (LeavesRoom w v) (room_by w v) (objects_of u) (untouched w u q j apart))

-- ---- all that stands of newer records
abbrev pub IsBeside : Undo → List (Undo × ℕ) → Type 0
IsBeside u rest = AllByRecursion (λ r. ShareNoObject u r.0) rest

-- an effect goes in front of what stands of others, or after it
pub effect_behind : (w : World) (u : Undo) (k : ℕ) (rest : List (Undo × ℕ)) → IsBeside u rest
    → with_remains (with_effect w u k) rest ≡ with_effect (with_remains w rest) u k
effect_behind w u k [] beside = refl
effect_behind w u k ((q, j) ∷ rest) beside =
    ap (λ v. with_remains v rest) (in_either_order w u q k j beside.0) ∙ effect_behind (with_effect w q j) u k rest beside.1

-- a record that is made in a world is made after them too
pub made_past : (w : World) (u : Undo) (rest : List (Undo × ℕ)) → IsBeside u rest → IsMadeIn w u → IsMadeIn (with_remains w rest) u
made_past w u [] beside made = made
made_past w u ((q, j) ∷ rest) beside made = made_past (with_effect w q j) u rest beside.1 (still_made w u q j beside.0 made)

-- neither here nor after
none_blocks : (b : Bool) (from : ℕ) (o : Option ℕ) → (if b then Some from else o) ≡ None → (b ≡ false) × (o ≡ None)
none_blocks true from o e = cc
none_blocks false from o e = (refl, e)

-- where nothing is in the way, what stands of the newer records is of other objects
pub newer_beside : (u : Undo) (from : ℕ) (newer : List Ending) → blocker from u newer ≡ None → IsBeside u (remains newer)
newer_beside u from [] free = tt
newer_beside u from ((q, Undone faults) ∷ newer) free = newer_beside u (from + 1) newer free
newer_beside u from ((q, Failed done faults) ∷ newer) free =
    let both = none_blocks (share_object u q) from (blocker (from + 1) u newer) free in
    (unshared u q both.0, newer_beside u (from + 1) newer both.1)
newer_beside u from ((q, Blocked by) ∷ newer) free =
    let both = none_blocks (share_object u q) from (blocker (from + 1) u newer) free in
    (unshared u q both.0, newer_beside u (from + 1) newer both.1)
