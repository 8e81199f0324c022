-- What a call with its reply fixes of the record that it leaves, on any host: `recorded` needs the world only for what stood there
-- before, and for numbers and places.
use Rattle.std.specs.Prelude.{◌≡◌, ℕ, ◌==◌, not, Bool, true, false, List, [], ◌∷◌, length, if◌then◌else◌}
use Rattle.xc_data.specs.declared.call.Call.{Call}
use Rattle.xc_data.specs.declared.call.Call.TheVariants as call
use Rattle.xc_data.specs.Calls.{Appending, CallChange, Creating, MakingPair, MakingPipe, Overwriting, Renaming, Unchanging, traits}
use Rattle.xc_data.specs.declared.call.Reply.{Reply}
use Rattle.xc_data.specs.declared.call.Reply.TheVariants as reply
use Rattle.xc_data.specs.declared.undo.Undo.{Undo}
use Rattle.xc_data.specs.declared.undo.Undo.TheVariants.{Overwrite, Append, Create, Rename, NewPipe, NewPair}
use Rattle.xc_world.specs.Trail.{done_of}

-- ---- of one call
-- a write that did some of its bytes
abbrev pub wrote_some : List ℕ → Reply → Bool
wrote_some bytes r = not (done_of (length bytes) r == 0)

-- a file or a pipe was made
abbrev pub made_one : Reply → Bool
made_one (reply.Made h) = true
-- with any other reply nothing was made
made_one _ = false

-- a pair was made
abbrev pub made_pair : Reply → Bool
made_pair (reply.MadePair h g) = true
-- with any other reply none was made
made_pair _ = false

-- a file took another name
abbrev pub gave_name : Reply → Bool
gave_name reply.Done = true
-- with any other reply none did
gave_name _ = false

-- whether such a change with this reply leaves a record
abbrev pub leaves_as : CallChange → Reply → Bool
leaves_as Unchanging r = false
leaves_as (Overwriting h bytes) r = wrote_some bytes r
leaves_as (Appending h bytes) r = wrote_some bytes r
leaves_as (Creating name) r = made_one r
leaves_as (Renaming from to) r = gave_name r
leaves_as MakingPipe r = made_one r
leaves_as MakingPair r = made_pair r

-- whether a call with this reply leaves a record
abbrev pub leaves_record : Call → Reply → Bool
leaves_record call r = leaves_as (traits call).change r

-- a record of this call with this reply: of the bytes that it wrote, and of so many of them; of its names; or of a new object
abbrev pub IsRecordOf : Call → Reply → Undo → Type 0
IsRecordOf (call.XWriteOvr h bytes) r (Overwrite file at before after n) = (after ≡ bytes) × (n ≡ done_of (length bytes) r)
IsRecordOf (call.XWriteSeq h bytes) r (Append file from after n) = (after ≡ bytes) × (n ≡ done_of (length bytes) r)
IsRecordOf (call.XCreate name) r (Create named num) = named ≡ name
IsRecordOf (call.XRename from to) r (Rename was is) = (was ≡ from) × (is ≡ to)
IsRecordOf call.XPipe r (NewPipe num) = Unit {0}
IsRecordOf call.XPair r (NewPair num) = Unit {0}
-- no other call leaves a record, and none of these one of another kind
IsRecordOf _ r _ = ⊥

-- ---- of calls
-- a call with its reply, where that leaves a record
abbrev pub left_by : Call → Reply → List (Call × Reply)
left_by c r = if leaves_record c r then (c, r) ∷ [] else []

-- these records are those of these calls, one of each and no others, in their order
abbrev pub AreRecordsOf : List (Call × Reply) → List Undo → Type 0
AreRecordsOf [] records = records ≡ []
AreRecordsOf (c ∷ calls) [] = ⊥
AreRecordsOf (c ∷ calls) (u ∷ records) = IsRecordOf c.0 c.1 u × AreRecordsOf calls records
