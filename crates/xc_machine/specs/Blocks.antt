-- A body that is made call by call, beside the plain machine's.
use Rattle.std.specs.Prelude.{◌≡◌, ◌≤◌, ℕ, List, length, take, Option}
use Rattle.std.specs.declared.option.Option.TheVariants.{None, Some}
use Rattle.xc_data.specs.Claims.{held_of}
use Rattle.xc_data.specs.declared.private.Private.{Private}
use Rattle.xc_world.specs.World.{World}
use Rattle.xc_world.specs.Run.{BodyResult, BlockState}
use Rattle.xc_machine.specs.declared.run.Replied.{Replied}
use Rattle.xc_machine.specs.declared.body.MachineBody.{MachineBody}
use Rattle.xc_machine.specs.declared.body.SavedBody.{SavedBody}

-- so many items from the front of a list are those of the save
pub record IsListFront {T : Type 0} (n : ℕ) (now saved : List T) : Type 0 where
  pub within : n ≤ length now
  pub front : take n now ≡ saved

-- the world and the handles of the save, and how many of the late calls were there
pub record IsMachineCopy (kept : SavedBody) (saved now : BodyResult) : Type 0 where
  pub world : kept.world ≡ saved.world
  pub places : kept.me.places ≡ saved.me.places
  pub late : IsListFront kept.late now.late saved.late

-- there is a copy exactly where a block is open
abbrev pub IsMachineSave : Option SavedBody → Option BodyResult → BodyResult → Type 0
IsMachineSave None None now = Unit {0}
IsMachineSave (Some kept) (Some saved) now = IsMachineCopy kept saved now
IsMachineSave None (Some saved) now = ⊥
IsMachineSave (Some kept) None now = ⊥

-- the plain machine's body gave this
pub record HasReplied (replied : Replied) (now : BodyResult) : Type 0 where
  pub late : replied.late ≡ now.late
  pub held : replied.held.items ≡ held_of now.touched

-- in this world and with this private state, a body stands where the plain machine's does
pub record StandsAt (world : World) (me : Private) (body : MachineBody) (b : BlockState) : Type 0 where
  pub world_is : world ≡ b.now.world
  pub me_is : me ≡ b.now.me
  pub gave : HasReplied body.replied b.now
  pub saved : IsMachineSave body.saved b.saved b.now
