-- The effect and the undoing of a record: they depend on its objects and change no other.
use Rattle.std.proofs.Common.{◌≡◌, ◌≢◌, ℕ, ◌+◌, cond, Option, Some, None, List, [], ◌∷◌, ◌++◌, take, drop, ap, sym, ◌∙◌, subst, refl}
use Rattle.std.specs.Prelude.{All, Contains, ◌==◌}
use Rattle.std.specs.FinMap as map
use Rattle.std.specs.FinMap.{FinMap}
use Rattle.std.specs.declared.cmp.Ordering.{Ordering}
use Rattle.std.specs.Ordering.{eq_by_cmp}
use Rattle.std.specs.Cmp.{IsTotalOrder}
use Rattle.std.specs.Cmp.Lexicographic.{nat_list_cmp_total}
use Rattle.std.proofs.lemmas.Map.Lookups.{exact_bytes}
use Rattle.std.proofs.lemmas.List.Elements.{All-head, All-tail, All-contains}
use Rattle.xc_data.specs.declared.object.Num.{Num}
use Rattle.xc_data.specs.declared.object.Object.{Object}
use Rattle.xc_data.specs.declared.object.Object.TheVariants as object
use Rattle.xc_data.specs.declared.undo.Undo.{Undo}
use Rattle.xc_data.specs.declared.undo.Undo.TheVariants.{Overwrite, Append, Create, Rename, NewPipe, NewPair}
use Rattle.xc_data.specs.declared.undo.UndoEnd.{UndoEnd}
use Rattle.xc_data.specs.declared.undo.UndoEnd.TheVariants.{Undone, Failed, Blocked}
use Rattle.xc_data.specs.Remaining.{objects_of}
use Rattle.xc_maps.proofs.Laws.{get-remove_other, num_total, num_exact}
use Rattle.xc_world.specs.World.{World, file_of, empty_pipe, empty_pair}
use Rattle.xc_world.specs.Act.Files.{overwritten}
use Rattle.xc_world.specs.Trail.{move_name, with_effect, undone}
use Rattle.xc_world.specs.Ends.{with_remains}
use Rattle.xc_world.specs.Effects.{restored, undone_to}
use Rattle.xc_world.specs.Laws.{AgreeAt, ChangesOnly, GoAlike}
use Rattle.xc_world.proofs.LocalParts.{both_so, first_in, later_in, same_alike, agree_itself, go, file_alike, new_alike, moved_alike, pipe_alike, pair_alike}
use Rattle.xc_world.proofs.LocalCalls.{same_file, same_name}
use Rattle.xc_data.specs.declared.claim.Claim.{Claim}
use Rattle.xc_world.specs.Own.{AgreeOn, KeepsBut, Owns}
use Rattle.xc_world.proofs.Calls.{agreed, still_agree, keeps_itself}
use Rattle.xc_world.proofs.Bodies.{keeps_on}

-- ---- what is taken away
removed_alike : {K X : Type 0} {R : K → K → Ordering} (o : IsTotalOrder R) (m n : FinMap R X) (k q : K) → map.get m q ≡ map.get n q
    → map.get (map.remove m k) q ≡ map.get (map.remove n k) q
removed_alike {R = R} o m n k q e = map.get-remove o m k q ∙ ap (cond (eq_by_cmp R q k) None) e ∙ sym (map.get-remove o n k q)

two : {X : Type 0} (as_object : X → Object) (objects : List Object) (a b : X) → Contains objects (as_object a) → (Contains objects (as_object b) → ⊥) → b ≢ a
two as_object objects a b has lacks e = lacks (subst (λ c. Contains objects (as_object c)) (sym e) has)

abbrev unmade : World → List ℕ → Num → World
unmade w name num = record w { names = map.remove w.names name; files = map.remove w.files num }

unmade_kept : (w v : World) (name : List ℕ) (num : Num) (o : Object) → AgreeAt w v o → AgreeAt (unmade w name num) (unmade v name num) o
unmade_kept w v name num (object.Name q) e = removed_alike nat_list_cmp_total w.names v.names name q e
unmade_kept w v name num (object.File q) e = removed_alike num_total w.files v.files num q e
unmade_kept w v name num _ e = e

unmade_left : (w : World) (objects : List Object) (name : List ℕ) (num : Num) → Contains objects (object.Name name) → Contains objects (object.File num)
    → (o : Object) → (Contains objects o → ⊥) → AgreeAt w (unmade w name num) o
unmade_left w objects name num named has (object.Name q) lacks =
    sym (get-remove_other nat_list_cmp_total exact_bytes w.names name q (two object.Name objects name q named lacks))
unmade_left w objects name num named has (object.File q) lacks =
    sym (get-remove_other num_total num_exact w.files num q (two object.File objects num q has lacks))
unmade_left w objects name num named has (object.Word at) lacks = refl
unmade_left w objects name num named has (object.Pipe q) lacks = refl
unmade_left w objects name num named has (object.Pair q) lacks = refl
unmade_left w objects name num named has object.Jobs lacks = refl

abbrev removed_pipe : World → Num → World
removed_pipe w num = record w { pipes = map.remove w.pipes num }

no_pipe_kept : (w v : World) (num : Num) (o : Object) → AgreeAt w v o → AgreeAt (removed_pipe w num) (removed_pipe v num) o
no_pipe_kept w v num (object.Pipe q) e = removed_alike num_total w.pipes v.pipes num q e
no_pipe_kept w v num _ e = e

no_pipe_left : (w : World) (objects : List Object) (num : Num) → Contains objects (object.Pipe num) → (o : Object) → (Contains objects o → ⊥)
    → AgreeAt w (removed_pipe w num) o
no_pipe_left w objects num has (object.Pipe q) lacks = sym (get-remove_other num_total num_exact w.pipes num q (two object.Pipe objects num q has lacks))
no_pipe_left w objects num has (object.Word at) lacks = refl
no_pipe_left w objects num has (object.Name q) lacks = refl
no_pipe_left w objects num has (object.File q) lacks = refl
no_pipe_left w objects num has (object.Pair q) lacks = refl
no_pipe_left w objects num has object.Jobs lacks = refl

abbrev removed_pair : World → Num → World
removed_pair w num = record w { pairs = map.remove w.pairs num }

no_pair_kept : (w v : World) (num : Num) (o : Object) → AgreeAt w v o → AgreeAt (removed_pair w num) (removed_pair v num) o
no_pair_kept w v num (object.Pair q) e = removed_alike num_total w.pairs v.pairs num q e
no_pair_kept w v num _ e = e

no_pair_left : (w : World) (objects : List Object) (num : Num) → Contains objects (object.Pair num) → (o : Object) → (Contains objects o → ⊥)
    → AgreeAt w (removed_pair w num) o
no_pair_left w objects num has (object.Pair q) lacks = sym (get-remove_other num_total num_exact w.pairs num q (two object.Pair objects num q has lacks))
no_pair_left w objects num has (object.Word at) lacks = refl
no_pair_left w objects num has (object.Name q) lacks = refl
no_pair_left w objects num has (object.File q) lacks = refl
no_pair_left w objects num has (object.Pipe q) lacks = refl
no_pair_left w objects num has object.Jobs lacks = refl

-- ---- a file that is changed by its own bytes, a name that moves
changed_file : (w v : World) (num : Num) (f : List ℕ → List ℕ) → All (AgreeAt w v) (object.File num ∷ [])
    → GoAlike (object.File num ∷ []) w v (record w { files = map.insert w.files num (f (file_of w num)) })
    (record v { files = map.insert v.files num (f (file_of v num)) })
changed_file w v num f agree =
    let has = first_in (object.File num) [] in
    file_alike (object.File num ∷ []) w v num (f (file_of w num)) (f (file_of v num)) (ap f (same_file (object.File num ∷ []) w v num has agree)) has agree

moves_alike : (objects : List Object) (w v : World) (from to : List ℕ) (o q : Option Num) → o ≡ q → Contains objects (object.Name from)
    → Contains objects (object.Name to) → All (AgreeAt w v) objects
    → GoAlike objects w v (move_name w from to o) (move_name v from to q)
moves_alike objects w v from to o q e old new agree = subst (λ x. GoAlike objects w v (move_name w from to o) (move_name v from to x)) e (same o)
  where
    same : (o : Option Num) → GoAlike objects w v (move_name w from to o) (move_name v from to o)
    same None = same_alike objects w v agree
    same (Some num) = moved_alike objects w v from to num num refl old new agree

-- ---- the effect
pub effect_alike : (w v : World) (u : Undo) (k : ℕ) → All (AgreeAt w v) (objects_of u) → GoAlike (objects_of u) w v (with_effect w u k) (with_effect v u k)
effect_alike w v (Overwrite file at before after n) k agree = changed_file w v file (overwritten (at + k) (drop k (take n after))) agree
effect_alike w v (Append file from after n) k agree = changed_file w v file (λ bytes. bytes ++ drop k (take n after)) agree
effect_alike w v (Create name num) k agree =
    let file = object.File num in
    new_alike (object.Name name ∷ file ∷ []) w v name num (first_in (object.Name name) (file ∷ []))
    (later_in (object.Name name) file (file ∷ []) (first_in file [])) agree
effect_alike w v (Rename from to) k agree =
    let L = object.Name from ∷ object.Name to ∷ [] in
    let old = first_in (object.Name from) (object.Name to ∷ []) in
    let new = later_in (object.Name from) (object.Name to) (object.Name to ∷ []) (first_in (object.Name to) []) in
    moves_alike L w v from to (map.get w.names from) (map.get v.names from) (same_name L w v from old agree) old new agree
effect_alike w v (NewPipe num) k agree = pipe_alike (object.Pipe num ∷ []) w v num empty_pipe empty_pipe refl (first_in (object.Pipe num) []) agree
effect_alike w v (NewPair num) k agree = pair_alike (object.Pair num ∷ []) w v num empty_pair empty_pair refl (first_in (object.Pair num) []) agree

-- it changes the objects of its record alone
pub effect_only : (w : World) (u : Undo) (k : ℕ) → ChangesOnly (objects_of u) w (with_effect w u k)
effect_only w u k = (effect_alike w w u k (agreed (λ _. Unit {0}) w w (objects_of u) (λ o _. agree_itself w o) (λ _ _. tt))).left

-- ---- its undoing
pub undone_alike : (w v : World) (u : Undo) → All (AgreeAt w v) (objects_of u) → GoAlike (objects_of u) w v (undone w u) (undone v u)
undone_alike w v (Overwrite file at before after n) agree = changed_file w v file (overwritten at (take n before)) agree
undone_alike w v (Append file from after n) agree = changed_file w v file (take from) agree
undone_alike w v (Create name num) agree =
    let file = object.File num in
    let named = first_in (object.Name name) (file ∷ []) in
    let has = later_in (object.Name name) file (file ∷ []) (first_in file []) in
    go (λ x. unmade x name num) (object.Name name ∷ file ∷ []) w v (unmade_kept w v name num)
    (λ x. record { others = unmade_left x (object.Name name ∷ file ∷ []) name num named has; count = refl; blocks = refl }) agree
undone_alike w v (Rename from to) agree =
    let L = object.Name from ∷ object.Name to ∷ [] in
    let old = first_in (object.Name from) (object.Name to ∷ []) in
    let new = later_in (object.Name from) (object.Name to) (object.Name to ∷ []) (first_in (object.Name to) []) in
    moves_alike L w v to from (map.get w.names to) (map.get v.names to) (same_name L w v to new agree) new old agree
undone_alike w v (NewPipe num) agree =
    go (λ x. removed_pipe x num) (object.Pipe num ∷ []) w v (no_pipe_kept w v num)
    (λ x. record { others = no_pipe_left x (object.Pipe num ∷ []) num (first_in (object.Pipe num) []); count = refl; blocks = refl }) agree
undone_alike w v (NewPair num) agree =
    go (λ x. removed_pair x num) (object.Pair num ∷ []) w v (no_pair_kept w v num)
    (λ x. record { others = no_pair_left x (object.Pair num ∷ []) num (first_in (object.Pair num) []); count = refl; blocks = refl }) agree

-- a front that is restored
restored_alike : (w v : World) (u : Undo) (n : ℕ) → All (AgreeAt w v) (objects_of u) → GoAlike (objects_of u) w v (restored w u n) (restored v u n)
restored_alike w v (Overwrite file at before after n) k agree =
    both_so (GoAlike (object.File file ∷ []) w v) (k == 0) (k == 0) _ _ _ _ refl (λ _. same_alike _ w v agree)
    (λ _. changed_file w v file (overwritten at (take k before)) agree)
restored_alike w v (Append file from after n) k agree = same_alike _ w v agree
restored_alike w v (Create name num) k agree = same_alike _ w v agree
restored_alike w v (Rename from to) k agree = same_alike _ w v agree
restored_alike w v (NewPipe num) k agree = same_alike _ w v agree
restored_alike w v (NewPair num) k agree = same_alike _ w v agree

-- a compensation depends on its record's objects alone, and changes no other
pub undone_to_alike : (w v : World) (u : Undo) (end : UndoEnd) → All (AgreeAt w v) (objects_of u)
    → GoAlike (objects_of u) w v (undone_to w u end) (undone_to v u end)
undone_to_alike w v u (Undone faults) agree = undone_alike w v u agree
undone_to_alike w v u (Failed n faults) agree = restored_alike w v u n agree
undone_to_alike w v u (Blocked by) agree = same_alike (objects_of u) w v agree

-- ---- all that remains
-- the objects of a record are of this kind
abbrev pub IsOf : (Object → Type 0) → Undo × ℕ → Type 0
IsOf P u = All P (objects_of u.0)

of_one : (P : Object → Type 0) (u : Undo × ℕ) → IsOf P u → (o : Object) → Contains (objects_of u.0) o → P o
of_one P u of o at = All-contains P (objects_of u.0) o of at

-- worlds that agree on a kind of objects agree on it with what remains of records of these
pub remains_agree : (P : Object → Type 0) (w v : World) (us : List (Undo × ℕ)) → All (IsOf P) us → AgreeOn P w v
    → AgreeOn P (with_remains w us) (with_remains v us)
remains_agree P w v [] of agree = agree
remains_agree P w v ((u, k) ∷ us) of agree =
    let one = of_one P (u, k) (All-head (IsOf P) (u, k) us of) in
    remains_agree P (with_effect w u k) (with_effect v u k) us (All-tail (IsOf P) (u, k) us of)
    (still_agree P w v (with_effect w u k) (with_effect v u k) (objects_of u) (effect_alike w v u k (agreed P w v (objects_of u) agree one)) agree)

-- what remains keeps all but the objects of its records
pub remains_keep : (P : Object → Type 0) (w : World) (us : List (Undo × ℕ)) → All (IsOf P) us → KeepsBut P w (with_remains w us)
remains_keep P w [] of = keeps_itself P w
remains_keep P w ((u, k) ∷ us) of =
    let one = of_one P (u, k) (All-head (IsOf P) (u, k) us of) in
    let went = effect_only w u k in
    keeps_on P w (with_effect w u k) (with_remains (with_effect w u k) us)
    (record { others = λ o lacks. went.others o (λ at. lacks (one o at)); count = went.count; blocks = went.blocks })
    (remains_keep P (with_effect w u k) us (All-tail (IsOf P) (u, k) us of))

-- the same of what a transaction owns
pub remains_agree_own : (tx : ℕ) (claims : List Claim) (w v : World) (us : List (Undo × ℕ)) → All (IsOf (Owns tx claims)) us → AgreeOn (Owns tx claims) w v
    → AgreeOn (Owns tx claims) (with_remains w us) (with_remains v us)
remains_agree_own tx claims w v us of agree = remains_agree (Owns tx claims) w v us of agree

-- what remains of a transaction's records keeps all but what it owns
pub remains_keep_own : (tx : ℕ) (claims : List Claim) (w : World) (us : List (Undo × ℕ)) → All (IsOf (Owns tx claims)) us
    → KeepsBut (Owns tx claims) w (with_remains w us)
remains_keep_own tx claims w us of = remains_keep (Owns tx claims) w us of
