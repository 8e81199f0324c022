-- A list with room for more.
use Rattle.std.specs.Prelude.{ℕ, List, refl}
use Rattle.std.specs.Coded.{Coded, code_by, coded×, coded_ℕ, coded_list}

-- the items, and how many more go in without memory
pub record Roomy (T : Type 0) : Type 0 where
  pub items : List T
  pub spare : ℕ

-- how a proof stores a list with room
abbrev pub coded_roomy : {T : Type 0} → Coded T → Coded (Roomy T)
coded_roomy {T} code =
    code_by (List T × ℕ) (coded× (coded_list code) coded_ℕ) (λ r. (r.items, r.spare)) (λ p. record { items = p.0; spare = p.1 }) (λ _. refl)
