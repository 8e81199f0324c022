-- What a call on a file asks of its host, and what it leaves, once the checks let it pass.
use Rattle.std.specs.Prelude.{◌≡◌, ℕ, ◌++◌, Bool, true, List, [], length, IsTrue, Result, IfOk, OnErr}
use Rattle.xc_data.specs.Counts.{CountsFault}
use Rattle.xc_data.specs.Step.{Step}
use Rattle.xc_data.specs.declared.memory.NoMemory.{NoMemory}
use Rattle.xc_data.specs.declared.object.Num.{Num}
use Rattle.xc_data.specs.declared.call.Call.{Call}
use Rattle.xc_data.specs.declared.call.Call.TheVariants.{XWriteOvr, XWriteSeq}
use Rattle.xc_data.specs.declared.call.Reply.{Reply}
use Rattle.xc_data.specs.declared.private.Place.TheVariants.{File}
use Rattle.xc_data.specs.declared.undo.Undo.{Undo}
use Rattle.xc_world.specs.Trail.{append_record, done_of, overwrite_record}
use Rattle.xc_host.specs.Contents.{has_file, world_of}
use Rattle.xc_host.specs.Model.{HostModel}
use Rattle.xc_compensate.specs.Records.{AtHost}
use Rattle.xc_file.specs.declared.checks.OpenFile.{OpenFile}
use Rattle.xc_file.specs.Appending.{StopsShort}
use Rattle.xc_file.specs.Writing.{AddsFor}
use Rattle.xc_calls.specs.Passing.{IsAsBefore}

-- ---- at the host
-- where the host tells, the file is there
abbrev pub IsFileThere : {H : Type 0} → HostModel H → H → Num → Type 0
IsFileThere model host file = IsTrue model.tells → has_file (model.contents host) file ≡ true

-- the host was asked: its contents stay, where it tells, and a fault is counted where there was one
pub record LooksAtHost {H : Type 0} (model : HostModel H) (step : Step H) (fault : Bool) : Type 0 where
  pub contents : IsTrue model.tells → model.contents step.new ≡ model.contents step.old
  pub cause : CountsFault fault (model.fault_count step.old) (model.fault_count step.new)

-- ---- at the host and the records
module _ {H : Type 0} (model : HostModel H) (step : Step (AtHost H)) where
  -- the older records stay, and one of the call comes after them exactly where it leaves one; where the host tells, these do
  pub record LeavesRecord (call : Call) (reply : Reply) (made : List Undo) : Type 0 where
    pub adds : AddsFor call reply step.old.undo step.new.undo
    pub records : IsTrue model.tells → step.new.undo ≡ record { pending = step.old.undo.pending ++ made; ended = [] }

module _ {H : Type 0} (model : HostModel H) (file : OpenFile) (bytes : List ℕ) (step : Step (AtHost H)) where
  -- what an overwrite at an open file leaves: the record of what it did; where memory ran out, all is as before
  pub record LeavesOverwrite (result : Result Reply NoMemory) : Type 0 where
    pub records : IfOk result (λ reply. LeavesRecord model step (XWriteOvr file.h bytes) reply
        (overwrite_record (world_of (model.contents step.old.host)) bytes (done_of (length bytes) reply) (File file.num file.at)))
    pub err : OnErr result (IsAsBefore model step)

  -- what an append leaves: the record of what it did; where memory ran out, it may have done a front
  pub record LeavesAppend (result : Result Reply NoMemory) : Type 0 where
    pub records : IfOk result (λ reply. LeavesRecord model step (XWriteSeq file.h bytes) reply
        (append_record (world_of (model.contents step.old.host)) bytes (done_of (length bytes) reply) (File file.num file.at)))
    pub stops : OnErr result (StopsShort model file.num bytes step.old step.new)
