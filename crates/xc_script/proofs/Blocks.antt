-- Blocks by their places.
use Rattle.std.proofs.Common.{◌≡◌, ℕ, zero, suc, ◌+◌, Bool, true, false, ◌||◌, List, [], ◌∷◌, Some, None, cond, arith}
use Rattle.std.proofs.Common.{refl, ap, sym, ◌∙◌, subst}
use Rattle.std.specs.Prelude.{nat_eq, not, slice_get}
use Rattle.std.specs.Cmp.Lexicographic.{pointwise, nat_list_eq_equiv, same_text}
use Rattle.std.specs.List.{IsDistinct, AllByRecursion, list_any, position_or_len}
use Rattle.xc_text.specs.declared.script.Block.{Block}
use Rattle.xc_text.specs.Scripts.{names_of}

-- a name apart from all of a list is apart from the one at a place
apart_at : (name other : List ℕ) (names : List (List ℕ)) (at : ℕ) → AllByRecursion (λ n. pointwise nat_eq name n ≡ false) names →
    slice_get names at ≡ Some other → pointwise nat_eq name other ≡ false
apart_at name other [] at apart is = absurd (let none : None ≡ Some other = is in cc)
apart_at name other (n ∷ names) zero apart is = subst (λ m. pointwise nat_eq name m ≡ false) (cc is) apart.0
apart_at name other (n ∷ names) (suc at) apart is = apart_at name other names at apart.1 is

-- whether a block has this name
abbrev named : List ℕ → Block → Bool
named name b = pointwise nat_eq b.name name

-- of blocks with different names the first one that has the name at a place stands there
first_there : (blocks : List Block) (at : ℕ) (name : List ℕ) → IsDistinct (pointwise nat_eq) (names_of blocks) →
    slice_get (names_of blocks) at ≡ Some name → position_or_len (named name) blocks ≡ at
unfolding IsDistinct
first_there [] at name distinct is = absurd (let none : None ≡ Some name = is in cc)
first_there (b ∷ blocks) zero name distinct is =
    let same : pointwise nat_eq b.name name ≡ true = subst (λ n. pointwise nat_eq b.name n ≡ true) (cc is) (nat_list_eq_equiv.refl b.name) in
    ap (λ t. cond (not t) (1 + position_or_len (named name) blocks) 0) same
first_there (b ∷ blocks) (suc at) name distinct is =
    let passed : position_or_len (named name) (b ∷ blocks) ≡ 1 + position_or_len (named name) blocks =
    ap (λ t. cond (not t) (1 + position_or_len (named name) blocks) 0) (apart_at b.name name (names_of blocks) at distinct.0 is) in
    let behind = first_there blocks at name distinct.1 is in
    omega (arith, passed, behind)

first_or_behind : (b : Block) (blocks : List Block) (name : List ℕ) (t : Bool) → pointwise nat_eq b.name name ≡ t →
    (t ≡ false → slice_get (names_of blocks) (position_or_len (named name) blocks) ≡ Some name) →
    slice_get (b.name ∷ names_of blocks) (cond (not t) (1 + position_or_len (named name) blocks) 0) ≡ Some name
first_or_behind b blocks name true is behind = ap Some (same_text b.name name (sym is))
first_or_behind b blocks name false is behind =
    let next : suc (position_or_len (named name) blocks) ≡ 1 + position_or_len (named name) blocks = omega arith in
    subst (λ at. slice_get (b.name ∷ names_of blocks) at ≡ Some name) next (behind refl)

-- where a block has the name the first one that has it does
first_has : (blocks : List Block) (name : List ℕ) → list_any (λ n. pointwise nat_eq n name) (names_of blocks) ≡ true →
    slice_get (names_of blocks) (position_or_len (named name) blocks) ≡ Some name
first_has [] name some = cc
first_has (b ∷ blocks) name some =
    first_or_behind b blocks name (pointwise nat_eq b.name name) refl
    (λ other. first_has blocks name (sym (ap (λ t. t || list_any (λ n. pointwise nat_eq n name) (names_of blocks)) other) ∙ some))
