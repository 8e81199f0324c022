-- What a late call does at the host.
use Rattle.std.specs.Prelude.{◌≡◌, true, [], ◌∷◌, ◌++◌, IsTrue}
use Rattle.xc_data.specs.Counts.{CountsFault}
use Rattle.xc_data.specs.Faults.{is_fault_end}
use Rattle.xc_data.specs.declared.call.LateCall.{LateCall}
use Rattle.xc_data.specs.declared.call.LateEnd.{LateEnd}
use Rattle.xc_host.specs.Contents.{Contents, with_contents, world_of}
use Rattle.xc_host.specs.Model.{HostModel}
use Rattle.xc_host.specs.Uses.{Uses, LatesFor}
use Rattle.xc_world.specs.World.{World}
use Rattle.xc_world.specs.Fits.{late_fits, late_answer_of}
use Rattle.xc_world.specs.Late.{late, ends}
use Rattle.xc_world.specs.Sound.{names_there}
use Rattle.xc_deferred.specs.Queue.{Queue}

-- the object is there that the call names by its number: a sync's file, while an unlink needs nothing
abbrev pub IsThereFor : Contents → LateCall → Type 0
IsThereFor contents call = names_there (world_of contents) call ≡ true

-- from these contents of the host to those a late call is the plain machine's, with the answer that its end tells of
pub record EndsAsPlain (was is : Contents) (call : LateCall) (end : LateEnd) : Type 0 where
  pub fits : IsTrue (late_fits (world_of was) call (late_answer_of end))
  pub step : (w : World) → late (with_contents w was) call (late_answer_of end) ≡ ends (with_contents w is) end

-- a host, and the late calls of one transaction at it
pub record LateAtHost (H : Type 0) : Type 0 where
  pub host : H
  pub late : Queue

-- the first call without an end was done at the host, and its end is noted
pub record EndsNext {H : Type 0} (model : HostModel H) (call : LateCall) (old new : LateAtHost H) : Type 0 where
  pub end : LateEnd
  pub noted : new.late ≡ record old.late { ends = old.late.ends ++ end ∷ [] }
  -- a fault exactly where the host's count rose
  pub cause : CountsFault (is_fault_end end) (model.fault_count old.host) (model.fault_count new.host)
  -- the host was called so, also where memory ran out
  pub uses : Uses model (record { old = old.host; new = new.host }) (LatesFor call end)
  -- over a host that tells, its end and what it did are the plain machine's
  pub does : IsTrue model.tells → EndsAsPlain (model.contents old.host) (model.contents new.host) call end
