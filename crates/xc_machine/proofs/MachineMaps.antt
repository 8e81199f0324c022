-- Laws of maps that the machine's steps need.
use Rattle.std.proofs.Common.{◌≡◌, Bool, true, false, cond, Option, Some, None, refl, ap, sym, ◌∙◌}
use Rattle.std.specs.Ordering.{eq_by_cmp}
use Rattle.std.specs.Cmp.Lexicographic.{nat_list_cmp_total}
use Rattle.std.proofs.lemmas.Map.Lookups.{exact_bytes}
use Rattle.std.specs.FinMap.{FinMap, get, insert, remove, get-insert, get-remove, same_map}
use Rattle.std.specs.Prelude.{ℕ, List}
use Rattle.xc_data.specs.declared.object.Num.{Num}
use Rattle.xc_maps.specs.Keys.{name_cmp}
use Rattle.xc_maps.proofs.Laws.{tied}

either_at : (num : Num) (g : Option Num) (b c : Bool) → (b ≡ true → c ≡ true → ⊥) → cond b None (cond c (Some num) g) ≡ cond c (Some num) (cond b None g)
either_at num g true true h = absurd (h refl refl)
either_at num g true false h = refl
either_at num g false true h = refl
either_at num g false false h = refl

-- a name that is there goes and an absent one comes, in either order
pub moved_either_way : (m : FinMap name_cmp Num) (from to : List ℕ) (num : Num) → get m from ≡ Some num → get m to ≡ None
    → remove (insert m to num) from ≡ insert (remove m from) to num
moved_either_way m from to num there absent = same_map nat_list_cmp_total exact_bytes _ _ (λ q.
    get-remove nat_list_cmp_total (insert m to num) from q
    ∙ ap (cond (eq_by_cmp name_cmp q from) None) (get-insert nat_list_cmp_total m to num q)
    ∙ either_at num (get m q) (eq_by_cmp name_cmp q from) (eq_by_cmp name_cmp q to)
    (λ a b.
    let same : get m from ≡ get m to = ap (get m) (sym (tied nat_list_cmp_total exact_bytes q from a) ∙ tied nat_list_cmp_total exact_bytes q to b) in cc)
    ∙ ap (cond (eq_by_cmp name_cmp q to) (Some num)) (sym (get-remove nat_list_cmp_total m from q))
    ∙ sym (get-insert nat_list_cmp_total (remove m from) to num q))
