-- Who holds which object that isn't a word: a row for each that is held, in a hashed map.
use Rattle.std.specs.Prelude.{ℕ, Bool, List, [], ◌∷◌, ◌++◌}
use Rattle.std.specs.List.{IsDistinct}
use Rattle.std.specs.Map.{keys_of}
use Rattle.std.specs.FinMap.{FinMap, from_entries}
use Rattle.xc_data.specs.declared.claim.Mode.{Mode}
use Rattle.xc_locks.specs.declared.key.Other.{Other}
use Rattle.xc_locks.specs.contracts.key.OtherPartialEq.TheImpl as same_other
use Rattle.xc_locks.specs.Keys.{Holder, holder_cmp}
use Rattle.xc_locks.specs.Rows.{entries_at}

-- an object with its holders
abbrev pub Row : Type 0
Row = Other × List (ℕ × Mode)

-- two objects that aren't words are one
abbrev pub is_other : Other → Other → Bool
is_other = same_other.ghosts.eq

-- no two rows are of one object
abbrev pub HaveOwnObjects : List Row → Type 0
HaveOwnObjects rows = IsDistinct is_other (keys_of rows)

-- the holders of all objects, each with its object
abbrev pub laid_out : List Row → List (Holder × Mode)
laid_out [] = []
laid_out (r ∷ rs) = entries_at r.0 r.1 ++ laid_out rs

-- what contracts see of them
abbrev pub others_of : List Row → FinMap holder_cmp Mode
others_of rows = from_entries (laid_out rows)
