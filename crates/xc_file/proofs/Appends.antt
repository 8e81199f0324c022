-- Appends that follow each other.
use Rattle.std.proofs.Common.{◌≡◌, ℕ, ◌+◌, ◌-◌, ◌≤◌, ◌<◌, true, List, [], ◌∷◌, ◌++◌, length, take, drop}
use Rattle.std.proofs.Common.{refl, ap, sym, ◌∙◌, arith, append_assoc, length-append, length-take, length-drop}
use Rattle.std.proofs.lemmas.List.{take_rest}
use Rattle.std.proofs.Math.Seq.{take-add}
use Rattle.std.specs.FinMap as map
use Rattle.std.specs.Prelude.{unwrap_or, is_some}
use Rattle.xc_data.specs.declared.object.Num.{Num}
use Rattle.xc_maps.proofs.Laws.{get-insert_same, insert-insert_same, num_total, num_exact}
use Rattle.xc_host.specs.Contents.{Contents, file_in, has_file, appended, appended_front}

file_in-appended : (c : Contents) (file : Num) (xs : List ℕ) → file_in (appended c file xs) file ≡ file_in c file ++ xs
file_in-appended c file xs = ap (λ o. unwrap_or o []) (get-insert_same num_total num_exact c.files file (file_in c file ++ xs))

-- a file is there after an append, and has as many bytes more
pub append_grows : (c next : Contents) (file : Num) (bytes : List ℕ) → next ≡ appended c file bytes
    → (has_file next file ≡ true) × (length (file_in next file) ≡ length (file_in c file) + length bytes)
append_grows c next file bytes did = (
  ap (λ n. has_file n file) did ∙ ap is_some (get-insert_same num_total num_exact c.files file (file_in c file ++ bytes)),
  ap (λ n. length (file_in n file)) did ∙ ap length (file_in-appended c file bytes) ∙ length-append (file_in c file) bytes,
)

-- an append after an append
appended-more : (c : Contents) (file : Num) (xs ys : List ℕ) → appended (appended c file xs) file ys ≡ appended c file (xs ++ ys)
appended-more c file xs ys =
    ap (λ f. record c { files = map.insert (map.insert c.files file (file_in c file ++ xs)) file (f ++ ys) }) (file_in-appended c file xs)
    ∙ ap (λ f. record c { files = map.insert (map.insert c.files file (file_in c file ++ xs)) file f }) (append_assoc (file_in c file) xs ys)
    ∙ ap (λ m. record c { files = m })
    (insert-insert_same num_total num_exact c.files file (file_in c file ++ xs) (file_in c file ++ (xs ++ ys)))

-- an append that isn't empty, after a front
appended_front-more : (c : Contents) (file : Num) (xs ys : List ℕ) → 0 < length ys
    → appended (appended_front c file xs) file ys ≡ appended_front c file (xs ++ ys)
appended_front-more c file [] (y ∷ ys) some = refl
appended_front-more c file (x ∷ xs) ys some = appended-more c file (x ∷ xs) ys
appended_front-more c file [] [] some = absurd (omega arith)

longer : (c : Contents) (file : Num) (done more : ℕ) (bytes : List ℕ) → done + more ≤ length bytes → 0 < more
    → appended (appended_front c file (take done bytes)) file (take more (drop done bytes)) ≡ appended_front c file (take (done + more) bytes)
longer c file done more bytes before some =
    let count : length (take more (drop done bytes)) ≡ more = length-take more (drop done bytes) ∙ omega (arith, length-drop done bytes) in
    appended_front-more c file (take done bytes) (take more (drop done bytes)) (omega (arith, count))
    ∙ ap (appended_front c file) (sym (take-add done more bytes))

-- an append after a front that was appended makes a longer front
pub append_more : (was c next : Contents) (file : Num) (done more : ℕ) (bytes : List ℕ) → done + more ≤ length bytes → 0 < more
    → c ≡ appended_front was file (take done bytes) → next ≡ appended c file (take more (take (length bytes - done) (drop done bytes)))
    → next ≡ appended_front was file (take (done + more) bytes)
append_more was c next file done more bytes before some told did =
    did
    ∙ ap (λ b. appended b file (take more (take (length bytes - done) (drop done bytes)))) told
    ∙ ap (λ xs. appended (appended_front was file (take done bytes)) file (take more xs)) (take_rest bytes done)
    ∙ longer was file done more bytes before some
