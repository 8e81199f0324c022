-- How long a file is with the effect of a record.
use Rattle.std.proofs.Common.{◌≡◌, ℕ, ◌+◌, ◌≤◌, List, ◌++◌, length, take, drop, arith, length-append, length-take, length-drop}
use Rattle.xc_world.specs.Act.Files.{overwritten}

-- an overwrite's effect is no longer than a file in which all of it fits
pub overwrite_within : (at n k m : ℕ) (after file : List ℕ) → length file ≤ m → at + n ≤ m → n ≤ length after
    → length (overwritten (at + k) (drop k (take n after)) file) ≤ m
overwrite_within at n k m after file le inside within =
    let covered = drop k (take n after) in
    omega (
      arith,
      length-append (take (at + k) file ++ covered) (drop (at + k + length covered) file),
      length-append (take (at + k) file) covered,
      length-take (at + k) file,
      length-drop (at + k + length covered) file,
      length-drop k (take n after),
      length-take n after,
    )

-- a file that is overwritten is as long as before
pub overwrite_length : (at n : ℕ) (after file : List ℕ) → at + length after ≤ length file → n ≤ length after
    → length (overwritten (at + 0) (drop 0 (take n after)) file) ≡ length file
overwrite_length at n after file inside within =
    let covered = drop 0 (take n after) in
    omega (
      arith,
      length-append (take (at + 0) file ++ covered) (drop (at + 0 + length covered) file),
      length-append (take (at + 0) file) covered,
      length-take (at + 0) file,
      length-drop (at + 0 + length covered) file,
      length-drop 0 (take n after),
      length-take n after,
    )

-- an append's effect in a shorter file
pub append_within : (n k m : ℕ) (after file : List ℕ) → length file ≤ m → length (file ++ drop k (take n after)) ≤ m + n
append_within n k m after file le = omega (arith, length-append file (drop k (take n after)), length-drop k (take n after), length-take n after)

-- a file that is appended to is longer by what was appended
pub append_length : (n : ℕ) (after file : List ℕ) → n ≤ length after → length (file ++ drop 0 (take n after)) ≡ length file + n
append_length n after file le = omega (arith, length-append file (drop 0 (take n after)), length-drop 0 (take n after), length-take n after)
