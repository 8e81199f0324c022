-- The records of a body that is made call by call, beside the plain machine's.
use Rattle.std.specs.Prelude.{◌≡◌, ℕ, Option}
use Rattle.std.specs.declared.option.Option.TheVariants.{None, Some}
use Rattle.xc_world.specs.Run.{BodyResult, BlockState}
use Rattle.xc_machine.specs.Blocks.{IsListFront}
use Rattle.xc_machine.specs.declared.traced.Trail.{Trail}

-- the records of the save stand in front of all exactly where a block is open
abbrev pub IsSavedTrail : Option ℕ → Option BodyResult → BodyResult → Type 0
IsSavedTrail None None now = Unit {0}
IsSavedTrail (Some kept) (Some saved) now = IsListFront kept now.trail saved.trail
IsSavedTrail None (Some saved) now = ⊥
IsSavedTrail (Some kept) None now = ⊥

-- a trail stands where the plain machine's body does
pub record TracesAt (trail : Trail) (b : BlockState) : Type 0 where
  pub records : trail.records.items ≡ b.now.trail
  pub saved : IsSavedTrail trail.saved b.saved b.now
