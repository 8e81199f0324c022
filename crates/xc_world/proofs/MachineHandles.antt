-- The handles of a script's lines, and how they fill the places.
use Rattle.std.proofs.Common.{◌≡◌, ℕ, zero, suc, ◌+◌, ◌-◌, ◌*◌, ◌≤◌, ◌<◌, cond, List, [], ◌∷◌, ◌++◌, length, take, replicate, get_or, refl, ap, sym, ◌∙◌}
use Rattle.std.proofs.Common.{arith, add-one}
use Rattle.std.specs.Prelude.{count_by, slice_set}
use Rattle.std.proofs.lemmas.List.Sums.{sum_by-cons}
use Rattle.xc_data.specs.declared.script.Opened.{Opened}
use Rattle.xc_data.specs.declared.script.Opened.TheVariants.{File, Pipe, Pair}
use Rattle.xc_data.specs.declared.private.Place.{Place}
use Rattle.xc_data.specs.declared.private.Place.TheVariants.{Vacant}
use Rattle.xc_data.specs.Limits.{is_pipe_line, is_pair_line}
use Rattle.xc_world.specs.Opening.{handles_of}

handles_more : (o : Opened) (objects : List Opened) (n more : ℕ) → n ≡ cond (is_pipe_line o) 1 0 + 2 * cond (is_pair_line o) 1 0
    → more ≡ count_by is_pipe_line objects + 2 * count_by is_pair_line objects
    → n + more ≡ count_by is_pipe_line (o ∷ objects) + 2 * count_by is_pair_line (o ∷ objects)
handles_more o objects n more e f =
    let pipes = sum_by-cons (λ x. cond (is_pipe_line x) 1 0) o objects in
    let pairs = sum_by-cons (λ x. cond (is_pair_line x) 1 0) o objects in
    omega (arith, pipes, pairs)

-- a pipe has one, a pair has two
pub length-handles_of : (k : ℕ) (objects : List Opened) → length (handles_of k objects) ≡ count_by is_pipe_line objects + 2 * count_by is_pair_line objects
length-handles_of k [] = refl
length-handles_of k (File name bytes ∷ objects) = omega (arith, handles_more (File name bytes) objects 0 _ refl (length-handles_of (k + 1) objects))
length-handles_of k (Pipe bytes ∷ objects) = omega (arith, handles_more (Pipe bytes) objects 1 _ refl (length-handles_of (k + 1) objects))
length-handles_of k (Pair ∷ objects) = omega (arith, handles_more Pair objects 2 _ refl (length-handles_of (k + 1) objects))

filled_at : (xs : List Place) (h n : ℕ) → h < length xs
    → slice_set (take h xs ++ replicate (suc n) Vacant) h (get_or xs h Vacant) ≡ take (suc h) xs ++ replicate n Vacant
filled_at [] h n lt = absurd (omega arith)
filled_at (x ∷ xs) zero n lt = refl
filled_at (x ∷ xs) (suc h) n lt = ap (λ ys. x ∷ ys) (filled_at xs h n (omega arith))

-- one place more is put in front of the vacant ones
pub place_filled : (xs : List Place) (h most : ℕ) → h < length xs → length xs ≤ most
    → slice_set (take h xs ++ replicate (most - h) Vacant) h (get_or xs h Vacant) ≡ take (h + 1) xs ++ replicate (most - (h + 1)) Vacant
place_filled xs h most lt le =
    let one : most - h ≡ suc (most - (h + 1)) = omega arith in
    ap (λ n. slice_set (take h xs ++ replicate n Vacant) h (get_or xs h Vacant)) one ∙ filled_at xs h (most - (h + 1)) lt
    ∙ ap (λ n. take n xs ++ replicate (most - (h + 1)) Vacant) (sym (add-one h))
