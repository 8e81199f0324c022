-- Which calls of its host each thing makes, in their order.
use Rattle.std.specs.Prelude.{◌≡◌, ◌⊎◌, ℕ, zero, suc, ◌+◌, ◌<◌, ◌≤◌, List, [], ◌∷◌, ◌++◌, length, replicate, Option}
use Rattle.std.specs.declared.option.Option.TheVariants.{None, Some}
use Rattle.xc_data.specs.Faults.{end_faults}
use Rattle.xc_data.specs.declared.call.Call.{Call}
use Rattle.xc_data.specs.declared.call.Call.TheVariants as call
use Rattle.xc_data.specs.declared.call.LateCall.{LateCall}
use Rattle.xc_data.specs.declared.call.LateCall.TheVariants as late
use Rattle.xc_data.specs.declared.call.LateEnd.{LateEnd}
use Rattle.xc_data.specs.declared.call.LateEnd.TheVariants as late_end
use Rattle.xc_data.specs.declared.call.Reply.{Reply}
use Rattle.xc_data.specs.declared.call.Reply.TheVariants as reply
use Rattle.xc_data.specs.declared.script.HostCallKind.{HostCallKind}
use Rattle.xc_data.specs.declared.script.HostCallKind.TheVariants as kind
use Rattle.xc_data.specs.declared.undo.Undo.{Undo}
use Rattle.xc_data.specs.declared.undo.Undo.TheVariants.{Overwrite, Append, Create, Rename, NewPipe, NewPair}
use Rattle.xc_data.specs.declared.undo.UndoEnd.{UndoEnd}
use Rattle.xc_data.specs.declared.undo.UndoEnd.TheVariants.{Undone, Failed, Blocked}
use Rattle.xc_data.specs.Step.{Step}
use Rattle.xc_host.specs.Model.{HostModel, IsUsed}

-- so many calls may move n bytes piece by piece, none of them empty: one at least, where there are bytes
pub record MayMove (n count : ℕ) : Type 0 where
  pub most : count ≤ n
  pub least : 1 ≤ n → 1 ≤ count

-- calls of one kind moved so many bytes piece by piece, and so many others among them moved none
abbrev pub MovesBy : HostCallKind → ℕ → ℕ → List HostCallKind → Type 0
MovesBy kind done others made = (count : ℕ) × MayMove done count × (made ≡ replicate (others + count) kind)

-- ---- a call of a transaction
-- reads until so many bytes are there or one gives none: at the end of a file it is the first
abbrev pub ReadsFor : ℕ → Reply → ℕ → Type 0
ReadsFor n (reply.Got bytes) count = MayMove n count × (count ≤ length bytes + 1)
ReadsFor n reply.End count = count ≡ 1
ReadsFor n r count = MayMove n count

-- takes until so many bytes are there or one gives none, after kept bytes: where these are enough there is no take, and a pipe
-- that has none of either is asked once
abbrev pub TakesFor : ℕ → Reply → ℕ → Type 0
TakesFor n (reply.Got bytes) count = (count ≤ n) × (count ≤ length bytes + 1) × (length bytes < n → 1 ≤ count)
TakesFor n reply.Empty count = count ≡ 1
TakesFor n reply.End count = count ≡ 1
TakesFor n r count = MayMove n count

-- so many old bytes are read, and then so many calls write
abbrev pub overwrites : ℕ → ℕ → List HostCallKind
overwrites reads writes = kind.Len ∷ replicate reads kind.ReadAt ++ replicate writes kind.WriteAt

-- how often an overwrite of n bytes reads and writes; nothing is written before the old bytes are there
abbrev pub OverwritesFor : ℕ → Reply → ℕ → ℕ → Type 0
OverwritesFor n reply.Done reads writes = MayMove n reads × MayMove n writes
OverwritesFor n (reply.Fault zero) reads writes = (reads ≤ n) × (writes ≤ 1) × (writes ≤ reads)
OverwritesFor n (reply.Fault (suc done)) reads writes = MayMove n reads × (2 ≤ writes) × (writes ≤ done + 2)
OverwritesFor n r reads writes = (reads ≤ n) × (writes ≡ 0)

-- how often an append of n bytes appends
abbrev pub AppendsFor : ℕ → Reply → ℕ → Type 0
AppendsFor n reply.Done count = MayMove n count
AppendsFor n (reply.Fault zero) count = count ≤ 1
AppendsFor n (reply.Fault (suc done)) count = (2 ≤ count) × (count ≤ done + 2)
AppendsFor n r count = count ≡ 0

-- what a create makes: a fault stops it at either call
abbrev pub CreatesFor : Reply → List HostCallKind → Type 0
CreatesFor (reply.Made h) made = made ≡ kind.Lookup ∷ kind.Create ∷ []
CreatesFor (reply.Fault n) made = (made ≡ kind.Lookup ∷ []) ⊎ (made ≡ kind.Lookup ∷ kind.Create ∷ [])
CreatesFor r made = made ≡ kind.Lookup ∷ []

-- the same of a rename
abbrev pub RenamesFor : Reply → List HostCallKind → Type 0
RenamesFor reply.Done made = made ≡ kind.Lookup ∷ kind.Lookup ∷ kind.Rename ∷ []
RenamesFor reply.NoName made = made ≡ kind.Lookup ∷ []
RenamesFor (reply.Fault n) made =
    (made ≡ kind.Lookup ∷ []) ⊎ (made ≡ kind.Lookup ∷ kind.Lookup ∷ []) ⊎ (made ≡ kind.Lookup ∷ kind.Lookup ∷ kind.Rename ∷ [])
RenamesFor r made = made ≡ kind.Lookup ∷ kind.Lookup ∷ []

-- a receipt asks the host once, and not where it got a message that is kept
abbrev pub ReceiptsFor : Reply → List HostCallKind → Type 0
ReceiptsFor (reply.Got message) made = (made ≡ []) ⊎ (made ≡ kind.Recv ∷ [])
ReceiptsFor r made = made ≡ kind.Recv ∷ []

-- what a call makes that no check refused; one that isn't named makes none
abbrev pub CallsFor : Call → Reply → List HostCallKind → Type 0
CallsFor (call.XOpen name) r made = made ≡ kind.Lookup ∷ []
CallsFor (call.XCreate name) r made = CreatesFor r made
CallsFor (call.XRead h n) r made = (count : ℕ) × ReadsFor n r count × (made ≡ replicate count kind.ReadAt)
CallsFor (call.XWriteOvr h []) r made = made ≡ []
CallsFor (call.XWriteOvr h (b ∷ bs)) r made =
    (reads writes : ℕ) × OverwritesFor (length (b ∷ bs)) r reads writes × (made ≡ overwrites reads writes)
CallsFor (call.XWriteSeq h []) r made = made ≡ []
CallsFor (call.XWriteSeq h (b ∷ bs)) r made =
    (count : ℕ) × AppendsFor (length (b ∷ bs)) r count × (made ≡ kind.Len ∷ replicate count kind.Append)
CallsFor (call.XLen h) r made = made ≡ kind.Len ∷ []
CallsFor (call.XRename from to) r made = RenamesFor r made
CallsFor call.XPipe r made = made ≡ kind.NewPipe ∷ []
CallsFor (call.XReadPipe h n) r made = (count : ℕ) × TakesFor n r count × (made ≡ replicate count kind.Take)
CallsFor call.XPair r made = made ≡ kind.NewPair ∷ []
CallsFor (call.XRecvmsg h) r made = ReceiptsFor r made
CallsFor c r made = made ≡ []

-- what a call makes; one that a check refused makes none
abbrev pub CallsOf : Option Reply → Call → Reply → List HostCallKind → Type 0
CallsOf (Some refused) c r made = made ≡ []
CallsOf None c r made = CallsFor c r made

-- ---- where memory ran out after some of them
-- the kinds of calls that it makes, in the order in which it begins with them
abbrev pub StopsFor : Call → List HostCallKind → Type 0
StopsFor (call.XOpen name) made = made ≡ kind.Lookup ∷ []
StopsFor (call.XCreate name) made = (made ≡ kind.Lookup ∷ []) ⊎ (made ≡ kind.Lookup ∷ kind.Create ∷ [])
StopsFor (call.XRead h n) made = (count : ℕ) × MayMove n count × (made ≡ replicate count kind.ReadAt)
StopsFor (call.XWriteOvr h bytes) made = (reads : ℕ) × (reads ≤ length bytes) × (made ≡ overwrites reads 0)
StopsFor (call.XWriteSeq h bytes) made = (count : ℕ) × (count ≤ length bytes) × (made ≡ kind.Len ∷ replicate count kind.Append)
StopsFor (call.XRename from to) made = (made ≡ kind.Lookup ∷ []) ⊎ (made ≡ kind.Lookup ∷ kind.Lookup ∷ [])
StopsFor call.XPipe made = (made ≡ []) ⊎ (made ≡ kind.NewPipe ∷ [])
StopsFor (call.XReadPipe h n) made = (count : ℕ) × (count ≤ n) × (made ≡ replicate count kind.Take)
StopsFor call.XPair made = (made ≡ []) ⊎ (made ≡ kind.NewPair ∷ [])
StopsFor (call.XRecvmsg h) made = (made ≡ []) ⊎ (made ≡ kind.Recv ∷ [])
StopsFor c made = made ≡ []

-- ---- a late call
-- what an unlink makes that ended so
abbrev pub UnlinksFor : LateEnd → List HostCallKind → Type 0
UnlinksFor late_end.Done made = made ≡ kind.Lookup ∷ kind.Unlink ∷ []
UnlinksFor (late_end.Fault n) made = (made ≡ kind.Lookup ∷ []) ⊎ (made ≡ kind.Lookup ∷ kind.Unlink ∷ [])
UnlinksFor end made = made ≡ kind.Lookup ∷ []

-- how often a write of n bytes to a pipe puts, after the look at how it stands: until all that fits is put, or a put fails
abbrev pub PutsFor : ℕ → LateEnd → ℕ → Type 0
PutsFor n late_end.Done count = MayMove n count
PutsFor n (late_end.Full done) count = MayMove done count
PutsFor n (late_end.Fault zero) count = count ≤ 1
PutsFor n (late_end.Fault (suc done)) count = (2 ≤ count) × (count ≤ done + 2)
PutsFor n (late_end.NoMemory zero) count = count ≡ 1
PutsFor n (late_end.NoMemory (suc done)) count = (2 ≤ count) × (count ≤ done + 2)
PutsFor n end count = count ≡ 0

-- what a message's sending makes that ended so: after the look at what waits for the other side, one call
abbrev pub SendsFor : LateEnd → List HostCallKind → Type 0
SendsFor late_end.Done made = made ≡ kind.PairState ∷ kind.Send ∷ []
SendsFor (late_end.Fault n) made = (made ≡ kind.PairState ∷ []) ⊎ (made ≡ kind.PairState ∷ kind.Send ∷ [])
SendsFor (late_end.NoMemory n) made = made ≡ kind.PairState ∷ kind.Send ∷ []
SendsFor end made = made ≡ kind.PairState ∷ []

-- what a late call makes; one that isn't named makes none
abbrev pub LatesFor : LateCall → LateEnd → List HostCallKind → Type 0
LatesFor (late.Unlink name) end made = UnlinksFor end made
LatesFor (late.Sync num) end made = made ≡ kind.Sync ∷ []
LatesFor (late.WritePipe num bytes) end made =
    (count : ℕ) × PutsFor (length bytes) end count × (made ≡ kind.PipeState ∷ replicate count kind.Put)
LatesFor (late.Shutdown object) end made = made ≡ kind.Shut ∷ []
LatesFor (late.Send num side bytes) end made = SendsFor end made
LatesFor c end made = made ≡ []

-- ---- a compensation
-- the kind that takes a record back
abbrev pub back_kind : Undo → HostCallKind
back_kind (Overwrite file at before after n) = kind.Restore
back_kind (Append file from after n) = kind.Cut
back_kind (Create name num) = kind.Uncreate
back_kind (Rename from to) = kind.NameBack
back_kind (NewPipe num) = kind.DropPipe
back_kind (NewPair num) = kind.DropPair

-- how many calls did their part of one that restored so many bytes: an overwrite goes piece by piece, and all else is one call
abbrev pub PartsOf : Undo → ℕ → ℕ → Type 0
PartsOf (Overwrite file at before after n) done count = MayMove done count
PartsOf u done count = count ≡ done

-- how much of a record this end restored
abbrev pub restored_part : Undo → UndoEnd → ℕ
restored_part (Overwrite file at before after n) (Undone faults) = n
restored_part u (Undone faults) = 1
restored_part u (Failed done faults) = done
restored_part u (Blocked by) = 0

-- what a compensation makes: calls of one kind, one for each fault and one for each part
abbrev pub BacksFor : Undo → UndoEnd → List HostCallKind → Type 0
BacksFor u end made = (count : ℕ) × PartsOf u (restored_part u end) count × (made ≡ replicate (end_faults end + count) (back_kind u))

-- ---- a host that was used
-- it follows the same plan, and was called so
pub record Uses {H : Type 0} (model : HostModel H) (step : Step H) (IsMade : List HostCallKind → Type 0) : Type 0 where
  pub made : List HostCallKind
  pub named : IsMade made
  pub used : IsUsed model made step
