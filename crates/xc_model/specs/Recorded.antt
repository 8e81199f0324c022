-- Which calls of a transaction left a record, by them and their replies alone, and what a report says of their records.
use Rattle.std.specs.Prelude.{◌≡◌, ℕ, ◌+◌, ◌-◌, ◌*◌, ◌<◌, ◌≤◌, true, List, [], ◌∷◌, ◌++◌, length, All, Option, unwrap_or}
use Rattle.std.specs.Option.{option_map}
use Rattle.std.specs.declared.option.Option.TheVariants.{None, Some}
use Rattle.xc_data.specs.declared.call.Call.{Call}
use Rattle.xc_data.specs.declared.call.Call.TheVariants as call
use Rattle.xc_data.specs.declared.call.Reply.{Reply}
use Rattle.xc_data.specs.declared.call.Reply.TheVariants as reply
use Rattle.xc_data.specs.declared.entry.Cause.{Cause}
use Rattle.xc_data.specs.declared.entry.Cause.TheVariants as cause
use Rattle.xc_data.specs.declared.undo.Undo.{Undo}
use Rattle.xc_data.specs.declared.undo.UndoEnd.TheVariants.{Failed}
use Rattle.xc_world.specs.Ends.{Ending, is_undone}
use Rattle.xc_world.specs.RecordOf.{AreRecordsOf, left_by}

-- ---- of a transaction
-- its calls that left a record, each with its reply, and in an open block those before the save
pub record Recorded : Type 0 where
  pub now : List (Call × Reply)
  pub saved : Option (List (Call × Reply))

-- it has made no call
abbrev pub no_records : Recorded
no_records = record { now = []; saved = None }

-- with one call more: a back leaves those of the save
abbrev pub records_with : Recorded → Call → Reply → Recorded
records_with k call.Save r = record { now = k.now; saved = Some k.now }
records_with k call.Keep r = record { now = k.now; saved = None }
records_with k call.Back r = record { now = unwrap_or k.saved k.now; saved = None }
-- any other call is made in the block that is open, also one yet to come
records_with k c r = record { now = k.now ++ left_by c r; saved = k.saved }

-- with these calls and their replies
abbrev pub all_records : Recorded → List Call → List Reply → Recorded
all_records k [] replies = k
all_records k (c ∷ calls) [] = k
all_records k (c ∷ calls) (r ∷ replies) = all_records (records_with k c r) calls replies

-- ---- the faults of a way back
-- how many records the open block has
abbrev pub block_records : Recorded → ℕ
block_records k = length k.now - length (unwrap_or k.saved k.now)

-- each of so many records was undone at one of so many tries
abbrev pub IsFewFaults : ℕ → ℕ → Reply → Type 0
IsFewFaults tries records (reply.Undone faults) = faults ≤ records * (tries - 1)
-- no other reply tells of a way back
IsFewFaults tries records _ = Unit {0}

-- so it is of each of these calls
abbrev pub AreFewFaults : ℕ → Recorded → List Call → List Reply → Type 0
AreFewFaults tries k [] replies = Unit {0}
AreFewFaults tries k (c ∷ calls) [] = Unit {0}
AreFewFaults tries k (c ∷ calls) (r ∷ replies) =
    IsFewFaults tries (block_records k) r × AreFewFaults tries (records_with k c r) calls replies

-- ---- the records of an aborted transaction
-- these are the records of these calls, and at most one comes after them, of which nothing is said
pub record AreRecordsAndOne (calls : List (Call × Reply)) (records : List Undo) : Type 0 where
  pub own : List Undo
  pub more : List Undo
  pub are : AreRecordsOf calls own
  pub one : length more ≤ 1
  pub parts : records ≡ own ++ more

-- each of its calls has left its record, and no other did; without memory one of the next call may stand last
abbrev pub HasRecords : Recorded → Cause → List Undo → Type 0
HasRecords k cause.NoMemory records = AreRecordsAndOne k.now records
HasRecords k cause.Asked records = AreRecordsOf k.now records
HasRecords k (cause.Conflict object holder at) records = AreRecordsOf k.now records
HasRecords k (cause.Revoked object by at) records = AreRecordsOf k.now records
HasRecords k (cause.Stuck failed) records = AreRecordsOf k.now records

-- how many records an open block had at its save
abbrev pub saved_records : Recorded → Option ℕ
saved_records k = option_map length k.saved

-- the record of this number is one of an open block that had so many at its save
abbrev pub IsOfBlock : Option ℕ → ℕ → Type 0
IsOfBlock None number = ⊥
IsOfBlock (Some saved) number = saved < number

-- of these records with their ends, the first of which has the number `from`, that of this number failed, and all newer
-- ones are undone
pub record IsNewestFailed (number from : ℕ) (ended : List Ending) : Type 0 where
  pub older : List Ending
  pub stuck : Undo
  pub done : ℕ
  pub faults : ℕ
  pub newer : List Ending
  pub at : number ≡ from + length older
  pub parts : ended ≡ older ++ (stuck, Failed done faults) ∷ newer
  pub undone : All (λ e. is_undone e.1 ≡ true) newer

-- where a way back got stuck: at a record of the block, which had so many at its save
abbrev pub IsStuckIn : Option ℕ → ℕ → List Ending → Cause → Type 0
IsStuckIn saved from ended (cause.Stuck failed) = IsOfBlock saved failed × IsNewestFailed failed from ended
IsStuckIn saved from ended cause.Asked = Unit {0}
IsStuckIn saved from ended cause.NoMemory = Unit {0}
IsStuckIn saved from ended (cause.Conflict object holder at) = Unit {0}
IsStuckIn saved from ended (cause.Revoked object by at) = Unit {0}
