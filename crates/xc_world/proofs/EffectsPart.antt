-- What remains of records, however they ended, is a part of what all of them left: no object more, and no longer file.
use Rattle.std.proofs.Common.{◌≡◌, inl, inr, ℕ, ◌≤◌, Bool, true, false, cond, Option, Some, None, unwrap_or, List, [], ◌∷◌, length, map, ap, sym, subst, arith}
use Rattle.std.specs.FinMap as finite
use Rattle.std.specs.Ordering.{eq_by_cmp}
use Rattle.xc_data.specs.declared.object.Num.{Num}
use Rattle.xc_data.specs.declared.undo.Undo.{Undo}
use Rattle.xc_data.specs.declared.undo.Undo.TheVariants.{Overwrite, Append, Create, Rename, NewPipe, NewPair}
use Rattle.xc_data.specs.declared.undo.UndoEnd.TheVariants.{Undone, Failed, Blocked}
use Rattle.xc_data.specs.Remaining.{stopped_at}
use Rattle.xc_maps.specs.Keys.{num_cmp}
use Rattle.xc_maps.proofs.Laws.{get-insert_cases, num_total, num_exact}
use Rattle.xc_world.specs.World.{World, file_of, with_file, empty_pipe, empty_pair}
use Rattle.xc_world.specs.Trail.{move_name, with_effect}
use Rattle.xc_world.specs.Ends.{Ending, remains, with_remains}
use Rattle.xc_world.specs.Effects.{whole, IsMadeIn, AreMadeIn}
use Rattle.xc_world.proofs.EffectsParts.{absent_before, absent_both}
use Rattle.xc_world.proofs.EffectsLengths.{overwrite_within, overwrite_length, append_within, append_length}

-- ---- a part of a world: no object more, and no longer file
pub record IsPart (r v : World) : Type 0 where
  pub files : (q : Num) → finite.get v.files q ≡ None → finite.get r.files q ≡ None
  pub pipes : (q : Num) → finite.get v.pipes q ≡ None → finite.get r.pipes q ≡ None
  pub pairs : (q : Num) → finite.get v.pairs q ≡ None → finite.get r.pairs q ≡ None
  pub size : (q : Num) → length (file_of r q) ≤ length (file_of v q)

-- the size at one number
size_at : (b : Bool) (x y : List ℕ) (g h : Option (List ℕ)) → length x ≤ length y → length (unwrap_or g []) ≤ length (unwrap_or h [])
    → length (unwrap_or (cond b (Some x) g) []) ≤ length (unwrap_or (cond b (Some y) h) [])
size_at true x y g h le was = le
size_at false x y g h le was = was

-- a file put in both
put_both : (r v : World) (at : Num) (x y : List ℕ) → length x ≤ length y → IsPart r v → IsPart (with_file r at x) (with_file v at y)
put_both r v at x y le part =
    record {
      files = λ q. absent_both r.files v.files at q x y (part.files q);
      pipes = part.pipes;
      pairs = part.pairs;
      size = λ q.
          subst (λ (o : Option (List ℕ)). length (unwrap_or o []) ≤ length (file_of (with_file v at y) q)) (sym (finite.get-insert num_total r.files at x q))
          (subst (λ (o : Option (List ℕ)). length (unwrap_or (cond (eq_by_cmp num_cmp q at) (Some x) (finite.get r.files q)) []) ≤ length (unwrap_or o []))
          (sym (finite.get-insert num_total v.files at y q))
          (size_at (eq_by_cmp num_cmp q at) x y (finite.get r.files q) (finite.get v.files q) le (part.size q)));
    }

-- a file put in the whole alone
put_whole : (r v : World) (at : Num) (y : List ℕ) → length (file_of v at) ≤ length y → IsPart r v → IsPart r (with_file v at y)
put_whole r v at y le part =
    record {
      files = λ q none. part.files q (absent_before v.files at q y none).1;
      pipes = part.pipes;
      pairs = part.pairs;
      size = λ q. elim (get-insert_cases num_total num_exact v.files at q y) [
        | inl here ↦
            subst (λ (o : Option (List ℕ)). length (file_of r q) ≤ length (unwrap_or o [])) (sym here.1)
            (let was : length (file_of r q) ≤ length (file_of v q) = part.size q in
            let same : length (file_of v q) ≡ length (file_of v at) = ap (λ k. length (file_of v k)) here.0 in omega arith)
        | inr is ↦ subst (λ (o : Option (List ℕ)). length (file_of r q) ≤ length (unwrap_or o [])) (sym is) (part.size q)
      ];
    }

-- names are no matter
moved_both : (r v : World) (from to : List ℕ) (o p : Option Num) → IsPart r v → IsPart (move_name r from to o) (move_name v from to p)
moved_both r v from to None None part = part
moved_both r v from to None (Some b) part = record { files = part.files; pipes = part.pipes; pairs = part.pairs; size = part.size }
moved_both r v from to (Some a) None part = record { files = part.files; pipes = part.pipes; pairs = part.pairs; size = part.size }
moved_both r v from to (Some a) (Some b) part = record { files = part.files; pipes = part.pipes; pairs = part.pairs; size = part.size }

moved_whole : (r v : World) (from to : List ℕ) (p : Option Num) → IsPart r v → IsPart r (move_name v from to p)
moved_whole r v from to None part = part
moved_whole r v from to (Some b) part = record { files = part.files; pipes = part.pipes; pairs = part.pairs; size = part.size }

-- ---- an effect in both, and in the whole alone
pub effect_both : (r v : World) (u : Undo) (k : ℕ) → IsMadeIn v u → IsPart r v → IsPart (with_effect r u k) (with_effect v u 0)
effect_both r v (Overwrite file at before after n) k made part =
    let size = part.size file in
    let whole = overwrite_length at n after (file_of v file) made.inside made.within in
    let inside = made.inside in
    let within = made.within in
    let some = overwrite_within at n k (length (file_of v file)) after (file_of r file) size (omega (arith, inside, within)) within in
    put_both r v file _ _ (omega (arith, some, whole)) part
effect_both r v (Append file from after n) k made part =
    let some = append_within n k (length (file_of v file)) after (file_of r file) (part.size file) in
    let whole = append_length n after (file_of v file) made.within in
    put_both r v file _ _ (omega (arith, some, whole)) part
effect_both r v (Create name num) k made part =
    let files = put_both r v num [] [] (omega arith) part in
    record { files = files.files; pipes = part.pipes; pairs = part.pairs; size = files.size }
effect_both r v (Rename from to) k made part = moved_both r v from to (finite.get r.names from) (finite.get v.names from) part
effect_both r v (NewPipe num) k made part =
    record {
      files = part.files;
      pipes = λ q. absent_both r.pipes v.pipes num q empty_pipe empty_pipe (part.pipes q);
      pairs = part.pairs;
      size = part.size;
    }
effect_both r v (NewPair num) k made part =
    record {
      files = part.files;
      pipes = part.pipes;
      pairs = λ q. absent_both r.pairs v.pairs num q empty_pair empty_pair (part.pairs q);
      size = part.size;
    }

-- an effect in the whole alone
pub effect_whole : (r v : World) (u : Undo) → IsMadeIn v u → IsPart r v → IsPart r (with_effect v u 0)
effect_whole r v (Overwrite file at before after n) made part =
    let whole = overwrite_length at n after (file_of v file) made.inside made.within in
    put_whole r v file _ (omega (arith, whole)) part
effect_whole r v (Append file from after n) made part =
    let whole = append_length n after (file_of v file) made.within in
    put_whole r v file _ (omega (arith, whole)) part
effect_whole r v (Create name num) made part =
    let none : length (file_of v num) ≡ 0 = ap (λ (o : Option (List ℕ)). length (unwrap_or o [])) made.absent in
    let files = put_whole r v num [] (omega (arith, none)) part in
    record { files = files.files; pipes = part.pipes; pairs = part.pairs; size = files.size }
effect_whole r v (Rename from to) made part = moved_whole r v from to (finite.get v.names from) part
effect_whole r v (NewPipe num) made part =
    record {
      files = part.files;
      pipes = λ q none. part.pipes q (absent_before v.pipes num q empty_pipe none).1;
      pairs = part.pairs;
      size = part.size;
    }
effect_whole r v (NewPair num) made part =
    record {
      files = part.files;
      pipes = part.pipes;
      pairs = λ q none. part.pairs q (absent_before v.pairs num q empty_pair none).1;
      size = part.size;
    }

-- ---- all of them
-- the records of these endings
abbrev pub ending_records : List Ending → List Undo
ending_records records = map (λ r. r.0) records

-- what remains of records is a part of what all of them left
pub remains_part : (r v : World) (records : List Ending) → AreMadeIn v (ending_records records) → IsPart r v
    → IsPart (with_remains r (remains records)) (with_remains v (whole (ending_records records)))
remains_part r v [] made part = part
remains_part r v ((u, Undone faults) ∷ records) made part =
    remains_part r (with_effect v u 0) records made.1 (effect_whole r v u made.0 part)
remains_part r v ((u, Failed done faults) ∷ records) made part =
    let k = stopped_at u done in remains_part (with_effect r u k) (with_effect v u 0) records made.1 (effect_both r v u k made.0 part)
remains_part r v ((u, Blocked by) ∷ records) made part =
    remains_part (with_effect r u 0) (with_effect v u 0) records made.1 (effect_both r v u 0 made.0 part)

-- a world is a part of itself
pub itself_part : (w : World) → IsPart w w
itself_part w = record { files = λ q none. none; pipes = λ q none. none; pairs = λ q none. none; size = λ q. omega arith }
