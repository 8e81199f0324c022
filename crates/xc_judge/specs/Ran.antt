-- An entry's body that was run again, beside the plain machine's.
use Rattle.std.specs.Prelude.{◌≡◌, ℕ, ◌≤◌, Bool, true, false, List, Option, All, length}
use Rattle.std.specs.declared.option.Option.TheVariants.{None, Some}
use Rattle.xc_data.specs.Claims.{held_of}
use Rattle.xc_data.specs.declared.call.LateEnd.{LateEnd}
use Rattle.xc_data.specs.declared.entry.Cause.{Cause}
use Rattle.xc_data.specs.declared.entry.Cause.TheVariants as cause
use Rattle.xc_data.specs.declared.entry.Outcome.{Outcome}
use Rattle.xc_data.specs.declared.entry.Outcome.TheVariants.{Committed, Aborted}
use Rattle.xc_data.specs.declared.private.Private.{Private}
use Rattle.xc_data.specs.declared.undo.UndoEnd.{UndoEnd}
use Rattle.xc_data.specs.declared.undo.UndoEnd.TheVariants.{Undone, Failed, Blocked}
use Rattle.xc_machine.specs.Replay.{led_by}
use Rattle.xc_world.specs.Run.{BodyResult}
use Rattle.xc_world.specs.Sound.{IsReady, IsSound}
use Rattle.xc_world.specs.World.{World}
use Rattle.xc_judge.specs.declared.ran.Ran.{Ran}

-- it left this, and gave this
pub record IsRan (ran : Ran) (b : BodyResult) (tx : ℕ) : Type 0 where
  pub world_is : ran.world ≡ b.world
  pub me_is : ran.me.value ≡ b.me
  pub late : ran.traced.replied.late ≡ b.late
  pub held : ran.traced.replied.held.items ≡ held_of b.touched
  pub trail : ran.traced.trail ≡ b.trail
  pub sound : IsSound ran.world ran.me.value tx
  pub ready : All (IsReady ran.world) ran.traced.replied.late
  pub few : length ran.world.words ≤ 4096

-- its late calls led on to this world, with this private state, and left sound what was
pub record IsLedOn (w : World) (me : Private) (b : BodyResult) (late : List LateEnd) : Type 0 where
  pub world_is : w ≡ led_by b.world b.late late
  pub me_is : me ≡ b.me
  pub sound : (you : Private) (ty : ℕ) → IsSound b.world you ty → IsSound w you ty
  pub few : length w.words ≤ 4096

-- the same of an entry that committed; one that was aborted leaves what its body left
abbrev pub IsLedOnBy : Ran → BodyResult → ℕ → Outcome → Type 0
IsLedOnBy ran b tx (Committed late) = IsLedOn ran.world ran.me.value b late
IsLedOnBy ran b tx (Aborted report) = IsRan ran b tx

-- of an entry that committed it is kept where that led
abbrev pub IsKept : Option Ran → BodyResult → Outcome → Type 0
IsKept None b (Committed late) = ⊥
IsKept (Some ran) b (Committed late) = IsLedOn ran.world ran.me.value b late
IsKept kept b (Aborted report) = Unit {0}

-- whether memory ran out
abbrev pub is_memory_cause : Cause → Bool
is_memory_cause cause.NoMemory = true
is_memory_cause cause.Asked = false
is_memory_cause (cause.Conflict object holder at) = false
is_memory_cause (cause.Revoked object by at) = false
is_memory_cause (cause.Stuck failed) = false

-- whether a compensation failed
abbrev pub has_failed : UndoEnd → Bool
has_failed (Failed done faults) = true
has_failed (Undone faults) = false
has_failed (Blocked by) = false
