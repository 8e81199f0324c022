-- Texts printed piece by piece.
use Rattle.std.proofs.Common.{◌≡◌, ◌++◌, ℕ, List, append_assoc}

-- four pieces printed one after the other are their text
pub four_pieces : (out a b c d : List ℕ) → out ++ a ++ b ++ c ++ d ≡ out ++ (a ++ b ++ c ++ d)
four_pieces out a b c d = simp append_assoc

-- five pieces printed one after the other are their text
pub five_pieces : (out a b c d e : List ℕ) → out ++ a ++ b ++ c ++ d ++ e ≡ out ++ (a ++ b ++ c ++ d ++ e)
five_pieces out a b c d e = simp append_assoc

-- two labelled numbers
pub two_labelled : (out a m b n : List ℕ) → out ++ (a ++ m) ++ (b ++ n) ≡ out ++ (a ++ m ++ b ++ n)
two_labelled out a m b n = simp append_assoc

-- and two more
pub four_labelled : (out a m b n c o d p : List ℕ)
    → out ++ (a ++ m) ++ (b ++ n) ++ (c ++ o) ++ (d ++ p) ≡ out ++ (a ++ m ++ b ++ n ++ c ++ o ++ d ++ p)
four_labelled out a m b n c o d p = simp append_assoc
