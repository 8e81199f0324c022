-- What one read gives.
use Rattle.std.specs.Prelude.{◌≡◌, ◌⊎◌, ℕ, ◌≤◌, List, [], length, take, drop}

-- a front of the bytes from `at`; it is empty where none is there or n is 0, and nowhere else
pub record IsFront (file : List ℕ) (at n : ℕ) (front : List ℕ) : Type 0 where
  pub begins : front ≡ take (length front) (drop at file)
  pub empty : front ≡ [] → (n ≡ 0) ⊎ (length file ≤ at)
