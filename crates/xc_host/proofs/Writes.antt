-- Writes that follow each other.
use Rattle.std.proofs.Common.{◌≡◌, ℕ, ◌+◌, ◌≤◌, ◌<◌, true, is_some, List, [], ◌∷◌, ◌++◌}
use Rattle.std.proofs.Common.{length, take, drop, ap, sym, ◌∙◌, arith, append_assoc, length-append, length-take, length-drop}
use Rattle.std.proofs.lemmas.List.{drop-drop, take_at, drop_at}
use Rattle.std.proofs.Math.Seq.{take-add}
use Rattle.std.specs.FinMap as map
use Rattle.std.specs.Prelude.{unwrap_or}
use Rattle.xc_data.specs.declared.object.Num.{Num}
use Rattle.xc_maps.proofs.Laws.{get-insert_same, insert-insert_same, num_total, num_exact}
use Rattle.xc_host.specs.Contents.{Contents, file_in, has_file, wrote, wrote_front}
use Rattle.xc_world.specs.Act.Files.{overwritten}
use Rattle.xc_world.proofs.Laws.{length-overwritten}

-- one overwrite after another
overwritten-more : (at : ℕ) (xs ys f : List ℕ) → at + (length xs + length ys) ≤ length f
    → overwritten (at + length xs) ys (overwritten at xs f) ≡ overwritten at (xs ++ ys) f
overwritten-more at xs ys f le =
    let front : length (take at f ++ xs) ≡ at + length xs = length-append (take at f) xs ∙ ap (λ n. n + length xs) (length-take at f ∙ omega arith) in
    let kept : take (at + length xs) (overwritten at xs f) ≡ take at f ++ xs = take_at (take at f ++ xs) (drop (at + length xs) f) (at + length xs) front in
    let rest : drop (at + length xs) (overwritten at xs f) ≡ drop (at + length xs) f = drop_at (take at f ++ xs) (drop (at + length xs) f)
    (at + length xs) front in
    let tail : drop (at + length xs + length ys) (overwritten at xs f) ≡ drop (at + length (xs ++ ys)) f =
    sym (drop-drop (length ys) (at + length xs) (overwritten at xs f)) ∙ ap (drop (length ys)) rest ∙ drop-drop (length ys) (at + length xs) f
    ∙ ap (λ n. drop n f) (omega (arith, length-append xs ys)) in
    ap (λ a. a ++ ys ++ drop (at + length xs + length ys) (overwritten at xs f)) kept
    ∙ ap (λ b. take at f ++ xs ++ ys ++ b) tail
    ∙ ap (λ a. a ++ drop (at + length (xs ++ ys)) f) (append_assoc (take at f) xs ys)

file_in-wrote : (c : Contents) (file : Num) (at : ℕ) (xs : List ℕ) → file_in (wrote c file at xs) file ≡ overwritten at xs (file_in c file)
file_in-wrote c file at xs = ap (λ o. unwrap_or o []) (get-insert_same num_total num_exact c.files file (overwritten at xs (file_in c file)))

-- a write after a write
wrote-more : (c : Contents) (file : Num) (at : ℕ) (xs ys : List ℕ) → at + (length xs + length ys) ≤ length (file_in c file)
    → wrote (wrote c file at xs) file (at + length xs) ys ≡ wrote c file at (xs ++ ys)
wrote-more c file at xs ys le =
    ap (λ f. record c { files = map.insert (map.insert c.files file (overwritten at xs (file_in c file))) file (overwritten (at + length xs) ys f) })
    (file_in-wrote c file at xs)
    ∙ ap (λ f. record c { files = map.insert (map.insert c.files file (overwritten at xs (file_in c file))) file f })
    (overwritten-more at xs ys (file_in c file) le)
    ∙ ap (λ m. record c { files = m })
    (insert-insert_same num_total num_exact c.files file (overwritten at xs (file_in c file)) (overwritten at (xs ++ ys) (file_in c file)))

-- a write that isn't empty, after a front
wrote_front-more : (c : Contents) (file : Num) (at : ℕ) (xs ys : List ℕ) → 0 < length ys → at + (length xs + length ys) ≤ length (file_in c file)
    → wrote (wrote_front c file at xs) file (at + length xs) ys ≡ wrote_front c file at (xs ++ ys)
wrote_front-more c file at [] (y ∷ ys) some le = let e : at + 0 ≡ at = omega arith in ap (λ n. wrote c file n (y ∷ ys)) e
wrote_front-more c file at (x ∷ xs) ys some le = wrote-more c file at (x ∷ xs) ys le
wrote_front-more c file at [] [] some le = absurd (omega arith)

-- a write after a front that was written makes a longer front
pub front_grows : (c : Contents) (file : Num) (at done more : ℕ) (bytes : List ℕ) → 0 < more → done + more ≤ length bytes
    → at + length bytes ≤ length (file_in c file)
    → wrote (wrote_front c file at (take done bytes)) file (at + done) (take more (drop done bytes)) ≡ wrote_front c file at (take (done + more) bytes)
front_grows c file at done more bytes some le fits =
    let size : length (take done bytes) ≡ done = length-take done bytes ∙ omega arith in
    let count : length (take more (drop done bytes)) ≡ more = length-take more (drop done bytes) ∙ omega (arith, length-drop done bytes) in
    ap (λ n. wrote (wrote_front c file at (take done bytes)) file (at + n) (take more (drop done bytes))) (sym size)
    ∙ wrote_front-more c file at (take done bytes) (take more (drop done bytes)) (omega (arith, count)) (omega (arith, count, size))
    ∙ ap (wrote_front c file at) (sym (take-add done more bytes))

-- a write inside a file leaves it there, at its length
pub keeps_length : (c : Contents) (file : Num) (at : ℕ) (bytes : List ℕ) → has_file c file ≡ true → at + length bytes ≤ length (file_in c file)
    → (has_file (wrote c file at bytes) file ≡ true) × (length (file_in (wrote c file at bytes) file) ≡ length (file_in c file))
keeps_length c file at bytes there fits = (
  ap is_some (get-insert_same num_total num_exact c.files file (overwritten at bytes (file_in c file))),
  ap length (file_in-wrote c file at bytes) ∙ length-overwritten at bytes (file_in c file) fits,
)
