-- What becomes of kept bytes where a read takes some: over every host.
use Rattle.std.specs.Prelude.{◌≡◌, ℕ, ◌++◌, List, [], Result, Ok, Err}
use Rattle.xc_data.specs.Step.{Step}
use Rattle.xc_data.specs.declared.entry.KeptItem.{KeptItem}
use Rattle.xc_data.specs.declared.object.Num.{Num}
use Rattle.xc_data.specs.declared.private.Place.TheVariants.{Pipe}
use Rattle.xc_world.specs.World.{World}
use Rattle.xc_world.specs.Run.{given_back}
use Rattle.xc_host.specs.declared.errors.HostErr.{HostErr}
use Rattle.xc_host.specs.declared.pipes.Took.{Took}
use Rattle.xc_host.specs.declared.pipes.Took.TheVariants as took
use Rattle.xc_calls.specs.Taking.{bytes_back, HoldsMore, KeepsNone, TakesFront}

-- what was found of at most n bytes of a pipe; or what a failed take leaves
abbrev pub TakesKept : Num → ℕ → Step (List KeptItem) → Result Took HostErr → Type 0
TakesKept pipe n kept (Ok (took.Bytes bytes)) = TakesFront pipe n bytes kept
TakesKept pipe n kept (Ok took.Empty) = KeepsNone pipe kept
TakesKept pipe n kept (Ok took.End) = KeepsNone pipe kept
TakesKept pipe n kept (Err e) = HoldsMore (Pipe pipe) kept

-- what the takes at the host found after a kept front; where one fails, the front and what came after it are given back
abbrev pub TakesAfter : Num → List ℕ → Step (List KeptItem) → Result Took HostErr → Type 0
TakesAfter pipe front kept (Ok (took.Bytes bytes)) = (rest : List ℕ) × (bytes ≡ front ++ rest)
TakesAfter pipe front kept (Ok took.Empty) = front ≡ []
TakesAfter pipe front kept (Ok took.End) = front ≡ []
TakesAfter pipe front kept (Err e) =
    (rest : List ℕ) × ((w : World) → given_back w kept.new ≡ given_back (given_back w kept.old) (bytes_back pipe (front ++ rest)))
