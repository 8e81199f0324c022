-- The orders of names and of numbers, and the codes of maps under them.
use Rattle.std.specs.Prelude.{ℕ, List, refl}
use Rattle.std.specs.Ordering.{nat_cmp, ordering_then}
use Rattle.std.specs.declared.cmp.Ordering.{Ordering}
use Rattle.std.specs.Cmp.Lexicographic.{slice_cmp}
use Rattle.std.specs.Coded.{Coded, code_by, coded×, coded_ℕ, coded_list}
use Rattle.xc_data.specs.declared.object.Num.{Num}

-- a name's bytes, as in a dictionary
abbrev pub name_cmp : List ℕ → List ℕ → Ordering
name_cmp = slice_cmp nat_cmp

-- by transaction, and then in the order in which it made them
abbrev pub num_cmp : Num → Num → Ordering
num_cmp a b = ordering_then (nat_cmp a.tx b.tx) (nat_cmp a.k b.k)

-- how a proof stores a name
abbrev pub coded_name : Coded (List ℕ)
coded_name = coded_list coded_ℕ

-- how a proof stores a number
abbrev pub coded_num : Coded Num
coded_num = code_by (ℕ × ℕ) (coded× coded_ℕ coded_ℕ) (λ n. (n.tx, n.k)) (λ p. record { tx = p.0; k = p.1 }) (λ _. refl)
