-- Silent statements that are passed.
use Rattle.std.proofs.Common.{◌≡◌, ℕ, ◌≤◌, Bool, true, false, List, [], ◌∷◌, length, refl, ap, ◌∙◌, arith}
use Rattle.std.specs.Prelude.{not, if◌then◌else◌}
use Rattle.std.proofs.lemmas.Bool.{cond_both}
use Rattle.xc_text.specs.Stated.{Statement}
use Rattle.xc_script.specs.Values.{Variables}
use Rattle.xc_script.specs.Walks.{Walk, is_silent, set_by, past_silent, none_silent_first}

-- as many statements are left, or fewer
pub settled-length : (variables : Variables) (stored : ℕ) (refused : Bool) (left : List Statement) →
    length (past_silent variables stored refused left).left ≤ length left
settled-length variables stored refused [] = omega arith
settled-length variables stored refused (s ∷ rest) =
    cond_both (is_silent variables refused s) _ _ (λ (w : Walk). length w.left ≤ length (s ∷ rest))
    (λ _. omega (arith, settled-length (set_by variables s) stored refused rest)) (λ _. omega arith)

same_length : (walk : Walk) (s : Statement) (rest : List Statement) → length walk.left ≤ length rest → s ∷ rest ≡ walk.left → ⊥
same_length walk s rest fewer same = omega (arith, ap length same)

silent_or : (variables : Variables) (stored : ℕ) (refused : Bool) (s : Statement) (rest : List Statement) (b : Bool) →
    is_silent variables refused s ≡ b → s ∷ rest ≡ (past_silent variables stored refused (s ∷ rest)).left → not b ≡ true
silent_or variables stored refused s rest false e same = refl
silent_or variables stored refused s rest true e same =
    let behind = past_silent (set_by variables s) stored refused rest in
    absurd (same_length behind s rest (settled-length (set_by variables s) stored refused rest)
    (same ∙ ap (λ silent. (if silent then behind else record { variables = variables; stored = stored; refused = refused; left = s ∷ rest }).left) e))

-- statements that stay as they are begin with none that is silent
pub statements_remain : (variables : Variables) (stored : ℕ) (refused : Bool) (left : List Statement) →
    left ≡ (past_silent variables stored refused left).left → none_silent_first variables refused left ≡ true
statements_remain variables stored refused [] same = refl
statements_remain variables stored refused (s ∷ rest) same = silent_or variables stored refused s rest (is_silent variables refused s) refl same
