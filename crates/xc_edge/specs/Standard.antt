-- A reader or a writer, and how often it failed.
use Rattle.std.specs.Prelude.{ℕ, List, Option, refl}
use Rattle.std.specs.Coded.{Coded, code_by, coded×, coded_ℕ}
use Rattle.xc_edge.specs.View.{StreamView}

-- a reader or a writer, and how often it failed
pub record Counting (T : Type 0) : Type 0 where
  pub inner : T
  pub faults : ℕ

-- told apart by both parts
abbrev pub coded_counting : {T : Type 0} → Coded T → Coded (Counting T)
coded_counting {T} code =
    code_by (T × ℕ) (coded× code coded_ℕ) (λ c. (c.inner, c.faults)) (λ p. record { inner = p.0; faults = p.1 }) (λ _. refl)

-- what it tells, where one knows what the reader or the writer tells
abbrev pub view_with : {T : Type 0} → (T → Option (List ℕ)) → Counting T → StreamView
view_with bytes counting = record { bytes = bytes counting.inner; faults = counting.faults }
