-- A compensation with a legal end leaves what remains with that end, and finds its record covered.
use Rattle.std.proofs.Common.{◌≡◌, ◌≢◌, ℕ, ◌+◌, ◌-◌, ◌≤◌, ◌<◌, true, cond, Option, Some, None, is_some, unwrap_or, List, [], ◌∷◌, ◌++◌, length, take, drop, map}
use Rattle.std.proofs.Common.{ap, ap₂, sym, ◌∙◌, append_assoc, arith, length-drop, subst, refl}
use Rattle.std.specs.Prelude.{◌==◌}
use Rattle.std.specs.FinMap as finite
use Rattle.std.specs.Cmp.Lexicographic.{nat_list_cmp_total}
use Rattle.std.proofs.lemmas.Bool.{eqb-true, cond_both}
use Rattle.std.proofs.lemmas.List.{take-append-drop, take-take, length-take-le}
use Rattle.std.proofs.lemmas.Map.Lookups.{exact_bytes}
use Rattle.std.proofs.Math.Seq.{take-add, take-append_seam}
use Rattle.xc_data.specs.declared.object.Num.{Num}
use Rattle.xc_data.specs.declared.undo.Undo.{Undo}
use Rattle.xc_data.specs.declared.undo.Undo.TheVariants.{Overwrite, Append, Create, Rename, NewPipe, NewPair}
use Rattle.xc_data.specs.declared.undo.UndoEnd.{UndoEnd}
use Rattle.xc_data.specs.declared.undo.UndoEnd.TheVariants.{Undone, Failed, Blocked}
use Rattle.xc_data.specs.Remaining.{stopped_at}
use Rattle.xc_maps.proofs.Laws.{alike, get-insert_same, get-insert_other, insert-insert_same, insert-get_same, insert-remove_same, num_total, num_exact}
use Rattle.xc_maps.proofs.Laws.{insert_undone as removed_again}
use Rattle.xc_world.specs.World.{World, file_of, with_file, empty_pipe, empty_pair}
use Rattle.xc_world.specs.Act.Files.{overwritten}
use Rattle.xc_world.specs.Trail.{move_name, with_effect, undone}
use Rattle.xc_world.specs.Ends.{Ending, blocker, IsLegalEnd, RestoredFits, remains, with_remains}
use Rattle.xc_world.specs.Effects.{whole, IsMadeIn, AreMadeIn, IsCovered, restored, undone_to}
use Rattle.xc_world.proofs.SoundParts.{there_put}
use Rattle.xc_world.proofs.UndoingParts.{bytes_restored as back_again, swapped, there_by}
use Rattle.xc_world.proofs.UndoingCalls.{none-removed}
use Rattle.xc_world.proofs.EffectsParts.{whole-remains, remains-append, made-behind}
use Rattle.xc_world.proofs.EffectsCalls.{at_start}
use Rattle.xc_world.proofs.EffectsLengths.{overwrite_length, append_length}
use Rattle.xc_world.proofs.EffectsApart.{effect_behind, made_past, newer_beside}

-- ---- lists
-- where the first bytes of an overwrite are put back, it stands from there on
front_restored : (at n done : ℕ) (after file : List ℕ) → done ≤ n → n ≤ length after → at + length after ≤ length file
    → overwritten at (take done (take (length after) (drop at file))) (overwritten at (take n after) file)
    ≡ overwritten (at + done) (drop done (take n after)) file
front_restored at n done after file le within inside =
    let a = take n after in
    let q = drop (at + length a) file in
    let m = take done (drop at file) in
    let size : length a ≡ n = length-take-le n after within in
    let kept : length (take done a) ≡ done = length-take-le done a (omega (arith, size)) in
    let old : length m ≡ done = length-take-le done (drop at file) (omega (arith, length-drop at file)) in
    let rest : length (drop done a) ≡ n - done = length-drop done a ∙ ap (λ k. k - done) size in
    let end : at + done + length (drop done a) ≡ at + length a = omega (arith, size, rest) in
    let cut : overwritten at a file ≡ (take at file ++ take done a) ++ (drop done a ++ q) =
    ap (λ x. (take at file ++ x) ++ q) (sym (take-append-drop done a))
    ∙ (ap (λ x. x ++ q) (sym (append_assoc (take at file) (take done a) (drop done a))) ∙ append_assoc (take at file ++ take done a) (drop done a) q) in
    ap₂ (overwritten at) (take-take done (length after) (drop at file) (omega arith)) cut
    ∙ (swapped at (take at file) (take done a) m (drop done a ++ q) (length-take-le at file (omega arith)) (kept ∙ sym old)
    ∙ (ap (λ x. x ++ (drop done a ++ q)) (sym (take-add at done file))
    ∙ (sym (append_assoc (take (at + done) file) (drop done a) q)
    ∙ ap (λ k. (take (at + done) file ++ drop done a) ++ drop k file) (sym end))))

-- ---- a file that was changed, and is changed again
file-same : (w : World) (file : Num) (bytes : List ℕ) → file_of (with_file w file bytes) file ≡ bytes
file-same w file bytes = ap (λ o. unwrap_or o []) (get-insert_same num_total num_exact w.files file bytes)

changed : (w : World) (file : Num) (bytes next : List ℕ) (g : List ℕ → List ℕ) → g bytes ≡ next
    → (let x = with_file w file bytes in with_file x file (g (file_of x file)) ≡ with_file w file next)
changed w file bytes next g e =
    let x = with_file w file bytes in
    ap (λ xs. with_file x file (g xs)) (file-same w file bytes)
    ∙ (ap (λ m. record w { files = m }) (insert-insert_same num_total num_exact w.files file bytes (g bytes)) ∙ ap (with_file w file) e)

-- the file as it is
file-again : (w : World) (file : Num) → is_some (finite.get w.files file) ≡ true → with_file w file (file_of w file) ≡ w
file-again w file there =
    ap (λ m. record w { files = m }) (insert-get_same num_total num_exact w.files file (file_of w file) (there_by (finite.get w.files file) [] there))

-- ---- a name that moved, and moves back
moved_back : (w : World) (from to : List ℕ) (o : Option Num) → finite.get w.names from ≡ o → is_some o ≡ true → finite.get w.names to ≡ None
    → (let x = move_name w from to o in move_name x to from (finite.get x.names to) ≡ w)
moved_back w from to None e there vacant = cc
moved_back w from to (Some num) e there vacant =
    let without = finite.remove w.names from in
    let x = move_name w from to (Some num) in
    ap (move_name x to from) (get-insert_same nat_list_cmp_total exact_bytes without to num)
    ∙ (ap (λ m. record w { names = finite.insert m from num })
    (removed_again nat_list_cmp_total exact_bytes without to num (none-removed w.names from to vacant))
    ∙ ap (λ m. record w { names = m }) (insert-remove_same nat_list_cmp_total exact_bytes w.names from num e))

moved_covered : (w : World) (from to : List ℕ) (o : Option Num) → finite.get w.names from ≡ o → is_some o ≡ true → finite.get w.names to ≡ None
    → IsCovered (move_name w from to o) (Rename from to)
moved_covered w from to None e there vacant = cc
moved_covered w from to (Some num) e there vacant =
    let without = finite.remove w.names from in
    let two : from ≢ to = λ same. let gone : finite.get w.names from ≡ None = ap (finite.get w.names) same ∙ vacant in cc in (
      get-insert_other nat_list_cmp_total exact_bytes without to from num two
          ∙ (finite.get-remove nat_list_cmp_total w.names from from
          ∙ ap (λ b. cond b None (finite.get w.names from)) (alike nat_list_cmp_total exact_bytes from)),
      ap is_some (get-insert_same nat_list_cmp_total exact_bytes without to num),
    )

-- ---- one record, with nothing after it
effect_undone : (w : World) (u : Undo) → IsMadeIn w u → undone (with_effect w u 0) u ≡ w
effect_undone w (Overwrite file at before after n) made =
    let f = file_of w file in
    let again : overwritten at (take n before) (overwritten (at + 0) (take n after) f) ≡ f =
    ap₂ (λ x y. overwritten at (take n x) y) made.old (at_start at (take n after) f)
    ∙ back_again at n (length after) (take n after) f (length-take-le n after made.within) made.within (omega (arith, made.inside, made.within)) in
    changed w file (overwritten (at + 0) (take n after) f) f (overwritten at (take n before)) again ∙ file-again w file made.there
effect_undone w (Append file from after n) made =
    let f = file_of w file in
    let again : take from (f ++ take n after) ≡ f = ap (λ k. take k (f ++ take n after)) (sym made.size) ∙ take-append_seam f (take n after) in
    changed w file (f ++ take n after) f (take from) again ∙ file-again w file made.there
effect_undone w (Create name num) made =
    ap (λ m. record w { names = m; files = finite.remove (finite.insert w.files num []) num })
    (removed_again nat_list_cmp_total exact_bytes w.names name num made.unnamed)
    ∙ ap (λ m. record w { files = m }) (removed_again num_total num_exact w.files num [] made.absent)
effect_undone w (Rename from to) made = moved_back w from to (finite.get w.names from) refl made.there made.vacant
effect_undone w (NewPipe num) made = ap (λ m. record w { pipes = m }) (removed_again num_total num_exact w.pipes num empty_pipe made)
effect_undone w (NewPair num) made = ap (λ m. record w { pairs = m }) (removed_again num_total num_exact w.pairs num empty_pair made)

effect_restored : (w : World) (u : Undo) (done : ℕ) → IsMadeIn w u → RestoredFits u done
    → restored (with_effect w u 0) u done ≡ with_effect w u (stopped_at u done)
effect_restored w (Overwrite file at before after n) done made fits =
    let f = file_of w file in
    let u = Overwrite file at before after n in
    let few : done < n = fits in
    let next = overwritten (at + done) (drop done (take n after)) f in
    let front : overwritten at (take done before) (overwritten (at + 0) (take n after) f) ≡ next =
    ap₂ (λ x y. overwritten at (take done x) y) made.old (at_start at (take n after) f)
    ∙ front_restored at n done after f (omega (arith, few)) made.within made.inside in
    cond_both (done == 0) _ _ (λ x. x ≡ with_effect w u done) (λ none. ap (with_effect w u) (sym (eqb-true done 0 none)))
    (λ _. changed w file (overwritten (at + 0) (take n after) f) next (overwritten at (take done before)) front)
effect_restored w (Append file from after n) done made fits = refl
effect_restored w (Create name num) done made fits = refl
effect_restored w (Rename from to) done made fits = refl
effect_restored w (NewPipe num) done made fits = refl
effect_restored w (NewPair num) done made fits = refl

effect_covered : (w : World) (u : Undo) → IsMadeIn w u → IsCovered (with_effect w u 0) u
effect_covered w (Overwrite file at before after n) made =
    let f = file_of w file in
    let next = overwritten (at + 0) (take n after) f in
    let inside = made.inside in
    let within = made.within in
    let size = overwrite_length at n after f inside within in
    (there_put w.files file next, subst (λ (xs : List ℕ). at + n ≤ length xs) (sym (file-same w file next)) (omega (arith, inside, within, size)))
effect_covered w (Append file from after n) made =
    let f = file_of w file in
    let next = f ++ take n after in
    let same = made.size in
    let size = append_length n after f made.within in
    (there_put w.files file next, subst (λ (xs : List ℕ). from + n ≤ length xs) (sym (file-same w file next)) (omega (arith, same, size)))
effect_covered w (Create name num) made = (get-insert_same nat_list_cmp_total exact_bytes w.names name num, there_put w.files num [])
effect_covered w (Rename from to) made = moved_covered w from to (finite.get w.names from) refl made.there made.vacant
effect_covered w (NewPipe num) made = there_put w.pipes num empty_pipe
effect_covered w (NewPair num) made = there_put w.pairs num empty_pair

-- ---- with what stands of newer ones
ended-beside : (w : World) (u : Undo) (newer : List Ending) (tries from : ℕ) (end : UndoEnd) → IsMadeIn w u
    → IsLegalEnd tries u end (blocker from u newer)
    → undone_to (with_remains (with_effect w u 0) (remains newer)) u end ≡ with_remains w (remains ((u, end) ∷ newer))
ended-beside w u newer tries from (Blocked by) made legal = refl
ended-beside w u newer tries from (Undone faults) made legal =
    let rest = remains newer in
    let beside = newer_beside u from newer legal.0 in
    ap (λ v. undone v u) (effect_behind w u 0 rest beside) ∙ effect_undone (with_remains w rest) u (made_past w u rest beside made)
ended-beside w u newer tries from (Failed done faults) made legal =
    let rest = remains newer in
    let beside = newer_beside u from newer legal.0 in
    ap (λ v. restored v u done) (effect_behind w u 0 rest beside)
    ∙ (effect_restored (with_remains w rest) u done (made_past w u rest beside made) legal.2 ∙ sym (effect_behind w u (stopped_at u done) rest beside))

-- a compensation of the newest record that stands whole leaves what its end tells of
pub record-undone : (w : World) (older : List Undo) (u : Undo) (newer : List Ending) (tries : ℕ) (end : UndoEnd)
    → AreMadeIn w (older ++ u ∷ map (λ r. r.0) newer)
    → IsLegalEnd tries u end (blocker (length older + 1 + 1) u newer)
    → undone_to (with_remains w (whole (older ++ u ∷ []) ++ remains newer)) u end ≡ with_remains w (whole older ++ remains ((u, end) ∷ newer))
record-undone w older u newer tries end made legal =
    let v = with_remains w (whole older) in
    ap (λ x. undone_to x u end) (whole-remains w older u (remains newer))
    ∙ (ended-beside v u newer tries (length older + 1 + 1) end (made-behind w older (u ∷ map (λ r. r.0) newer) made).0 legal
    ∙ sym (remains-append w (whole older) (remains ((u, end) ∷ newer))))

-- the newest record that stands whole is covered, where nothing is in its way
pub record-covered : (w : World) (older : List Undo) (u : Undo) (newer : List Ending) → AreMadeIn w (older ++ u ∷ map (λ r. r.0) newer)
    → blocker (length older + 1 + 1) u newer ≡ None → IsCovered (with_remains w (whole (older ++ u ∷ []) ++ remains newer)) u
record-covered w older u newer made free =
    let v = with_remains w (whole older) in
    let rest = remains newer in
    let beside = newer_beside u (length older + 1 + 1) newer free in
    subst (λ x. IsCovered x u) (sym (whole-remains w older u rest ∙ effect_behind v u 0 rest beside))
    (effect_covered (with_remains v rest) u (made_past v u rest beside (made-behind w older (u ∷ map (λ r. r.0) newer) made).0))
