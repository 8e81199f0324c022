-- Places that are put in.
use Rattle.std.proofs.Common.{◌≡◌, ℕ, List, [], Bool, true, false, cond, Option, None, Some, refl, sym, ap, true≢false, ◌∙◌}
use Rattle.std.specs.Prelude.{unwrap_or, is_some}
use Rattle.std.specs.FinMap.{FinMap, empty, get, insert, get-empty, get-insert}
use Rattle.std.specs.Ordering.{eq_by_cmp}
use Rattle.std.specs.Cmp.Lexicographic.{nat_list_cmp_total}
use Rattle.std.proofs.lemmas.Map.Lookups.{exact_bytes}
use Rattle.xc_maps.specs.Keys.{name_cmp}
use Rattle.xc_maps.proofs.Laws.{tied}
use Rattle.xc_names.specs.Places.{AreTheirOwn}

-- no name has a place, and so each place has its own name
pub none_placed : AreTheirOwn empty
none_placed name place there = absurd (true≢false (ap is_some (sym there ∙ get-empty name_cmp name)))

one_at : (key name place : List ℕ) (old : Option (List ℕ)) (b : Bool) → (b ≡ true → key ≡ name) → (old ≡ Some place → place ≡ key)
    → cond b (Some name) old ≡ Some place → place ≡ key
one_at key name place old true same own there = ap (λ o. unwrap_or o []) (sym there) ∙ sym (same refl)
one_at key name place old false same own there = own there

-- a name that is put into a place of its own leaves it so
pub one_more : (m : FinMap name_cmp (List ℕ)) (name : List ℕ) → AreTheirOwn m → AreTheirOwn (insert m name name)
one_more m name own key place there =
    one_at key name place (get m key) (eq_by_cmp name_cmp key name) (tied nat_list_cmp_total exact_bytes key name) (own key place)
    (sym (get-insert nat_list_cmp_total m name name key) ∙ there)
