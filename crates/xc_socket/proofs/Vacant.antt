-- How many handles are vacant, where the lowest of them are found.
use Rattle.std.proofs.Common.{◌≡◌, ℕ, ◌<◌, ◌≤◌, Bool, true, false, cond, None, Some, List, length, get_or, set, refl, ap, sym, ◌∙◌, subst, arith}
use Rattle.std.proofs.lemmas.List.Sums.{get_or-le-sum_by, passes_at_first, sum_by-set}
use Rattle.std.specs.Prelude.{count_by, nat_lt, IfNone, Option}
use Rattle.std.specs.List.{position_or_len}
use Rattle.xc_data.specs.Private.{is_vacant, lowest_vacant}
use Rattle.xc_data.specs.declared.object.Num.{Num}
use Rattle.xc_data.specs.declared.private.Place.{Place}
use Rattle.xc_data.specs.declared.private.Place.TheVariants.{Vacant, Pair}
use Rattle.xc_world.proofs.Laws.{no_vacant, vacant_set}

-- what one place counts
abbrev vacant_count : Place → ℕ
vacant_count place = cond (is_vacant place) 1 0

found_first : (b : Bool) (first h : ℕ) → cond b (Some first) None ≡ Some h → (b ≡ true) × (first ≡ h)
found_first true first h e = (refl, cc)
found_first false first h e = cc

-- the lowest vacant handle is one of them, and is vacant
lowest_is : (places : List Place) (h : ℕ) → lowest_vacant places ≡ Some h → (h < length places) × (vacant_count (get_or places h Vacant) ≡ 1)
lowest_is places h e =
    let first = position_or_len is_vacant places in
    let found = found_first (nat_lt first (length places)) first h e in
    let within : first < length places = grind (arith, found.0) in
    let vacant : is_vacant (get_or places first Vacant) ≡ true = passes_at_first is_vacant places Vacant within in
    (subst (λ k. k < length places) found.1 within, ap (λ k. vacant_count (get_or places k Vacant)) (sym found.1) ∙ ap (λ b. cond b 1 0) vacant)

-- where one is found one is vacant
some_vacant : (places : List Place) (h : ℕ) → lowest_vacant places ≡ Some h → 1 ≤ count_by is_vacant places
some_vacant places h e =
    let is = lowest_is places h e in
    omega (arith, is.1, get_or-le-sum_by vacant_count places h Vacant is.0)

-- where another is found when a side of a pair stands there, two are
pub two_found : (places : List Place) (num : Num) (h g : ℕ) → lowest_vacant places ≡ Some h → lowest_vacant (set places h (Pair num 0)) ≡ Some g
    → 2 ≤ count_by is_vacant places
two_found places num h g first second =
    let is = lowest_is places h first in
    omega (arith, is.1, sum_by-set vacant_count places h (Pair num 0) Vacant is.0, some_vacant (set places h (Pair num 0)) g second)

-- where none is found, fewer than two are
pub none_found : (places : List Place) → lowest_vacant places ≡ None → count_by is_vacant places < 2
none_found places e = omega (arith, no_vacant places e)

-- where no other is found, fewer than two are
pub one_found : (places : List Place) (num : Num) (h : ℕ) → lowest_vacant (set places h (Pair num 0)) ≡ None → count_by is_vacant places < 2
one_found places num h e = omega (arith, vacant_set places h (Pair num 0), no_vacant (set places h (Pair num 0)) e)

-- what holds anyway holds where nothing is found
pub always_none : {T : Type 0} (o : Option T) (P : Type 0) → P → IfNone o P
always_none None P p = p
always_none (Some x) P p = tt
