-- What one read adds to what was read before it, and how many there are.
use Rattle.std.specs.Prelude.{◌≡◌, ℕ, ◌+◌, ◌≤◌, List, ◌++◌, length, replicate}
use Rattle.xc_data.specs.Step.{Step}
use Rattle.xc_data.specs.declared.script.HostCallKind.{HostCallKind}
use Rattle.xc_data.specs.declared.script.HostCallKind.TheVariants as kind
use Rattle.xc_host.specs.Fronts.{IsFront}
use Rattle.xc_host.specs.Uses.{MayMove}

-- the calls of a read of n bytes that gave so many: each but the last gave some
abbrev pub ReadsBy : ℕ → ℕ → List HostCallKind → Type 0
ReadsBy n len made = (count : ℕ) × MayMove n count × (count ≤ len + 1) × (made ≡ replicate count kind.ReadAt)

-- after the bytes so far comes a front of the n bytes from `at`, of `more` bytes
pub record AppendsFront (file : List ℕ) (at n more : ℕ) (bytes : Step (List ℕ)) : Type 0 where
  pub piece : List ℕ
  pub size : length piece ≡ more
  pub grown : bytes.new ≡ bytes.old ++ piece
  pub front : IsFront file at n piece
