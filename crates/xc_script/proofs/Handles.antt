-- What the variables hold after the handles of a prologue.
use Rattle.std.proofs.Common.{◌≡◌, ℕ, zero, suc, ◌+◌, ◌<◌, List, [], ◌∷◌, Option, Some, None, length, replicate, refl, ap, sym, ◌∙◌, subst, arith}
use Rattle.std.specs.Prelude.{slice_get, slice_set, get_or}
use Rattle.std.proofs.lemmas.List.{length-replicate}
use Rattle.std.proofs.lemmas.Option.{slice_get_within, get_or_from_slice_get}
use Rattle.xc_script.specs.Values.{Values, value_there, value_at}
use Rattle.xc_script.specs.Ask.{with_handles, opening_variables}
use Rattle.xc_script.specs.Handles.{IsIn, IsLastIn}
use Rattle.xc_script.specs.declared.value.Value.{Value}
use Rattle.xc_script.specs.declared.value.Value.TheVariants as value
use Rattle.xc_text.specs.Scripts.{IsScript}
use Rattle.xc_text.specs.declared.script.Script.{Script}

get_of_set : (values : Values) (v : ℕ) (x : Option Value) → v < length values → slice_get (slice_set values v x) v ≡ Some x
get_of_set [] v x within = absurd (omega arith)
get_of_set (y ∷ values) zero x within = refl
get_of_set (y ∷ values) (suc v) x within = get_of_set values v x (omega arith)

get_beside_set : (values : Values) (w v : ℕ) (x : Option Value) → (w ≡ v → ⊥) → slice_get (slice_set values w x) v ≡ slice_get values v
get_beside_set [] w v x other = refl
get_beside_set (y ∷ values) zero zero x other = absurd (other refl)
get_beside_set (y ∷ values) zero (suc v) x other = refl
get_beside_set (y ∷ values) (suc w) zero x other = refl
get_beside_set (y ∷ values) (suc w) (suc v) x other = get_beside_set values w v x (λ e. other (ap suc e))

length_of_set : (values : Values) (w : ℕ) (x : Option Value) → length (slice_set values w x) ≡ length values
length_of_set [] w x = refl
length_of_set (y ∷ values) zero x = refl
length_of_set (y ∷ values) (suc w) x = ap suc (length_of_set values w x)

-- a variable that none of the handles is in holds what it held
pub untouched : (vs : List ℕ) (h v : ℕ) (values : Values) → ((k : ℕ) → IsIn vs k v → ⊥) → value_at (with_handles vs h values) v ≡ value_at values v
untouched [] h v values none = refl
untouched (w ∷ vs) h v values none =
    untouched vs (h + 1) v (slice_set values w (Some (value.Handle h))) (λ k is. none (suc k) is)
    ∙ ap value_there (get_beside_set values w v (Some (value.Handle h)) (λ e. none zero (ap Some e)))

-- and one that a handle is in the last of them
pub last_held : (vs : List ℕ) (h k v : ℕ) (values : Values) → IsLastIn vs k v → v < length values
    → value_at (with_handles vs h values) v ≡ Some (value.Handle (h + k))
last_held [] h k v values last within = absurd (let none : None ≡ Some v = last.0 in cc)
last_held (w ∷ vs) h zero v values last within =
    let same : w ≡ v = cc last.0 in
    let set : slice_get (slice_set values w (Some (value.Handle h))) v ≡ Some (Some (value.Handle h)) =
    subst (λ u. slice_get (slice_set values u (Some (value.Handle h))) v ≡ Some (Some (value.Handle h))) (sym same)
    (get_of_set values v (Some (value.Handle h)) within) in
    let sum : h ≡ h + 0 = omega arith in
    untouched vs (h + 1) v (slice_set values w (Some (value.Handle h))) (λ k is. last.1 (suc k) (omega arith) is)
    ∙ ap value_there set ∙ ap (λ n. Some (value.Handle n)) sum
last_held (w ∷ vs) h (suc k) v values last within =
    let more : v < length (slice_set values w (Some (value.Handle h))) = omega (arith, within, length_of_set values w (Some (value.Handle h))) in
    let sum : h + 1 + k ≡ h + suc k = omega arith in
    last_held vs (h + 1) k v (slice_set values w (Some (value.Handle h))) (last.0, λ later lt is. last.1 (suc later) (omega arith) is) more
    ∙ ap (λ n. Some (value.Handle n)) sum

nothing_there : (n v : ℕ) (held : Option Value) → held ≡ None → value_there (slice_get (replicate n held) v) ≡ None
nothing_there zero v held none = refl
nothing_there (suc n) zero held none = none
nothing_there (suc n) (suc v) held none = nothing_there n v held none

-- at the opening, of a script that was read
pub last_of_script : (script : Script) (h v : ℕ) → IsScript script → IsLastIn script.handles h v
    → value_at (opening_variables script).values v ≡ Some (value.Handle h)
last_of_script script h v is last =
    let within : h < length script.handles = slice_get_within script.handles h v last.0 in
    let at : get_or script.handles h v ≡ v = get_or_from_slice_get script.handles h v v last.0 in
    let there : v < length script.variables = subst (λ n. n < length script.variables) at (is.each_handle h v within) in
    let none : Option Value = None in
    let sum : 0 + h ≡ h = omega arith in
    last_held script.handles 0 h v (replicate (length script.variables) none) last (rw length-replicate there)
    ∙ ap (λ n. Some (value.Handle n)) sum

-- at the opening of any script
pub none_of_script : (script : Script) (v : ℕ) → ((h : ℕ) → IsIn script.handles h v → ⊥) → value_at (opening_variables script).values v ≡ None
none_of_script script v none =
    let empty : Option Value = None in
    untouched script.handles 0 v (replicate (length script.variables) empty) none ∙ nothing_there (length script.variables) v empty refl
