-- Keys by numbers, of which one stands beside the others.
use Rattle.std.specs.Prelude.{ℕ, Option, Some, None}
use Rattle.std.specs.Ordering.{nat_cmp}
use Rattle.std.specs.FinMap as map

-- the others, and the one beside them
abbrev pub with_key : Option (ℕ × ℕ) → map.FinMap nat_cmp ℕ → map.FinMap nat_cmp ℕ
with_key None keys = keys
with_key (Some e) keys = map.insert keys e.0 e.1
