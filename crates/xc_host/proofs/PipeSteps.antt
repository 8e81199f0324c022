-- Calls on pipes that follow each other.
use Rattle.std.proofs.Common.{◌≡◌, ℕ, ◌+◌, ◌≤◌, ◌<◌, List, [], ◌∷◌, ◌++◌, length, take, drop}
use Rattle.std.proofs.Common.{refl, ap, sym, ◌∙◌, arith, append_assoc, length-take, length-drop}
use Rattle.std.proofs.lemmas.List.{drop-drop}
use Rattle.std.proofs.Math.Seq.{take-add}
use Rattle.std.specs.FinMap as map
use Rattle.std.specs.Prelude.{unwrap_or}
use Rattle.xc_data.specs.declared.object.Num.{Num}
use Rattle.xc_maps.proofs.Laws.{get-insert_same, insert-insert_same, num_total, num_exact}
use Rattle.xc_world.specs.World.{Pipe, empty_pipe}
use Rattle.xc_host.specs.Contents.{Contents}
use Rattle.xc_host.specs.Pipes.{pipe_in, taken_from, put_into, put_front}

-- the contents with this pipe
abbrev with_it : Contents → Num → Pipe → Contents
with_it c num pipe = record c { pipes = map.insert c.pipes num pipe }

it_is : (c : Contents) (num : Num) (pipe : Pipe) → pipe_in (with_it c num pipe) num ≡ pipe
it_is c num pipe = ap (λ o. unwrap_or o empty_pipe) (get-insert_same num_total num_exact c.pipes num pipe)

-- a change after a change of one pipe
twice : (c : Contents) (num : Num) (one : Pipe) (f : Pipe → Pipe)
    → with_it (with_it c num one) num (f (pipe_in (with_it c num one) num)) ≡ with_it c num (f one)
twice c num one f =
    ap (λ p. with_it (with_it c num one) num (f p)) (it_is c num one)
    ∙ ap (λ m. record c { pipes = m }) (insert-insert_same num_total num_exact c.pipes num one (f one))

-- ---- bytes that are put
abbrev with_behind : Pipe → List ℕ → Pipe
with_behind pipe bytes = record pipe { held = pipe.held ++ bytes }

put-put : (c : Contents) (num : Num) (xs ys : List ℕ) → put_into (put_into c num xs) num ys ≡ put_into c num (xs ++ ys)
put-put c num xs ys =
    twice c num (with_behind (pipe_in c num) xs) (λ p. with_behind p ys)
    ∙ ap (λ held. with_it c num (record (pipe_in c num) { held = held })) (append_assoc (pipe_in c num).held xs ys)

put_front-put : (c : Contents) (num : Num) (xs ys : List ℕ) → 0 < length ys → put_into (put_front c num xs) num ys ≡ put_front c num (xs ++ ys)
put_front-put c num [] (y ∷ ys) some = refl
put_front-put c num (x ∷ xs) ys some = put-put c num (x ∷ xs) ys
put_front-put c num [] [] some = absurd (omega (arith, some))

-- a put after a front that was put makes a longer front
pub front_put : (c : Contents) (num : Num) (done more : ℕ) (bytes : List ℕ) → 0 < more → done + more ≤ length bytes
    → put_into (put_front c num (take done bytes)) num (take more (drop done bytes)) ≡ put_front c num (take (done + more) bytes)
front_put c num done more bytes some le =
    let count : length (take more (drop done bytes)) ≡ more = length-take more (drop done bytes) ∙ omega (arith, length-drop done bytes) in
    put_front-put c num (take done bytes) (take more (drop done bytes)) (omega (arith, count)) ∙ ap (put_front c num) (sym (take-add done more bytes))

-- ---- bytes that are taken
abbrev pipe_without_front : Pipe → ℕ → Pipe
pipe_without_front pipe n = record pipe { held = drop n pipe.held }

take-take : (c : Contents) (num : Num) (m n : ℕ) → taken_from (taken_from c num m) num n ≡ taken_from c num (m + n)
take-take c num m n =
    twice c num (pipe_without_front (pipe_in c num) m) (λ p. pipe_without_front p n)
    ∙ ap (λ held. with_it c num (record (pipe_in c num) { held = held })) (drop-drop n m (pipe_in c num).held)
