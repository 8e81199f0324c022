-- All that is behind a place in a list.
use Rattle.std.proofs.Common.{◌≡◌, ℕ, ◌-◌, List, length, length-drop, take, drop, arith}
use Rattle.std.proofs.lemmas.List.{take_all}

-- a range to the end
pub behind_all : {X : Type 0} (n : ℕ) (xs : List X) → take (length xs - n) (drop n xs) ≡ drop n xs
behind_all n xs = let size = length-drop n xs in take_all (length xs - n) (drop n xs) (omega (arith, size))
