-- Reads that follow each other.
use Rattle.std.proofs.Common.{◌≡◌, ℕ, ◌+◌, List, ◌++◌, length, take, drop, ap, sym, ◌∙◌, subst}
use Rattle.std.proofs.Math.Seq.{take-add}
use Rattle.std.proofs.lemmas.List.{drop-drop}
use Rattle.xc_data.specs.declared.object.Num.{Num}
use Rattle.xc_host.specs.Contents.{Contents, file_in}
use Rattle.xc_host.specs.Fronts.{IsFront}
use Rattle.xc_file.specs.Reading.{AppendsFront}

-- a front of what is after a front makes a longer one
pub front_more : (file : List ℕ) (at len n : ℕ) (so_far piece : List ℕ) → so_far ≡ take len (drop at file) → IsFront file (at + len) n piece
    → so_far ++ piece ≡ take (len + length piece) (drop at file)
front_more file at len n so_far piece e f =
    ap (λ xs. xs ++ piece) e
    ∙ ap (λ xs. take len (drop at file) ++ xs) (f.begins ∙ ap (take (length piece)) (sym (drop-drop len at file)))
    ∙ sym (take-add len (length piece) (drop at file))

-- what one read more adds, over a host that tells
pub read_more_told : (was c : Contents) (num : Num) (at len n more : ℕ) (old new : List ℕ) → c ≡ was → old ≡ take len (drop at (file_in was num))
    → AppendsFront (file_in c num) (at + len) n more (record { old = old; new = new }) → new ≡ take (len + more) (drop at (file_in was num))
read_more_told was c num at len n more old new same told adds =
    adds.grown
    ∙ front_more (file_in was num) at len n old adds.piece told (subst (λ d. IsFront (file_in d num) (at + len) n adds.piece) same adds.front)
    ∙ ap (λ k. take (len + k) (drop at (file_in was num))) adds.size
