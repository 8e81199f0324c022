-- Writes that follow each other.
use Rattle.std.proofs.Common.{◌≡◌, ℕ, ◌+◌, ◌-◌, ◌≤◌, ◌<◌, true, List, length, take, drop, ap, ◌∙◌, arith, length-take}
use Rattle.std.proofs.lemmas.List.{take_rest}
use Rattle.xc_data.specs.declared.object.Num.{Num}
use Rattle.xc_host.specs.Contents.{Contents, file_in, has_file, wrote, wrote_front}
use Rattle.xc_host.proofs.Laws.{front_grows, keeps_length}

-- a write after a front that was written makes a longer front
pub write_more : (was c next : Contents) (file : Num) (at done more : ℕ) (bytes : List ℕ) → done + more ≤ length bytes → 0 < more
    → at + length bytes ≤ length (file_in was file) → c ≡ wrote_front was file at (take done bytes)
    → next ≡ wrote c file (at + done) (take more (take (length bytes - done) (drop done bytes)))
    → next ≡ wrote_front was file at (take (done + more) bytes)
write_more was c next file at done more bytes within some inside told did =
    did
    ∙ ap (λ d. wrote d file (at + done) (take more (take (length bytes - done) (drop done bytes)))) told
    ∙ ap (λ xs. wrote (wrote_front was file at (take done bytes)) file (at + done) (take more xs)) (take_rest bytes done)
    ∙ front_grows was file at done more bytes some within inside

-- the file is there after it, at its length
pub write_keeps : (c next : Contents) (file : Num) (at done more : ℕ) (bytes : List ℕ) → done + more ≤ length bytes → has_file c file ≡ true
    → at + length bytes ≤ length (file_in c file)
    → next ≡ wrote c file (at + done) (take more (take (length bytes - done) (drop done bytes)))
    → (has_file next file ≡ true) × (length (file_in next file) ≡ length (file_in c file))
write_keeps c next file at done more bytes within there inside did =
    let left = take more (take (length bytes - done) (drop done bytes)) in
    let fits : at + done + length left ≤ length (file_in c file) =
    omega (arith, length-take more (take (length bytes - done) (drop done bytes)), within, inside) in
    let kept = keeps_length c file (at + done) left there fits in
    (ap (λ d. has_file d file) did ∙ kept.0, ap (λ d. length (file_in d file)) did ∙ kept.1)
