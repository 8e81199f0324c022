-- Names and their places.
use Rattle.std.specs.Prelude.{◌≡◌, ℕ, List}
use Rattle.std.specs.declared.option.Option.TheVariants.{Some}
use Rattle.std.specs.FinMap.{FinMap, get}
use Rattle.xc_maps.specs.Keys.{name_cmp}

-- each place has its own name
abbrev pub AreTheirOwn : FinMap name_cmp (List ℕ) → Type 0
AreTheirOwn placed = (name place : List ℕ) → get placed name ≡ Some place → place ≡ name
