-- How many records there are, as the code counts them.
use Rattle.std.specs.Prelude.{◌≡◌, ℕ, ◌+◌, ◌-◌, ◌≤◌, length, Option, unwrap_or, if◌then◌else◌}
use Rattle.std.specs.declared.option.Option.TheVariants.{None, Some}
use Rattle.xc_data.specs.declared.call.Call.{Call}
use Rattle.xc_data.specs.declared.call.Call.TheVariants as call
use Rattle.xc_data.specs.declared.call.Reply.{Reply}
use Rattle.xc_data.specs.declared.entry.Cause.{Cause}
use Rattle.xc_data.specs.declared.entry.Cause.TheVariants as cause
use Rattle.xc_data.specs.declared.entry.Report.{Report}
use Rattle.xc_world.specs.Ends.{AreLegal}
use Rattle.xc_world.specs.RecordOf.{leaves_record}
use Rattle.xc_model.specs.Recorded.{Recorded, saved_records}
use Rattle.xc_judge.specs.declared.counted.Counted.{Counted}

-- how many records a transaction has, and in an open block how many it had at the save
pub record RecordCount : Type 0 where
  pub now : ℕ
  pub saved : Option ℕ

-- those of these calls
abbrev pub count_of : Recorded → RecordCount
count_of k = record { now = length k.now; saved = saved_records k }

-- as the code has them
abbrev pub counts : Counted → RecordCount
counts k = record { now = k.count; saved = k.saved }

-- with one call more: a back leaves those of the save
abbrev pub count_with : RecordCount → Call → Reply → RecordCount
count_with n call.Save r = record { now = n.now; saved = Some n.now }
count_with n call.Keep r = record { now = n.now; saved = None }
count_with n call.Back r = record { now = unwrap_or n.saved n.now; saved = None }
-- any other call is made in the block that is open, also one yet to come
count_with n c r = record { now = if leaves_record c r then n.now + 1 else n.now; saved = n.saved }

-- how many the open block has
abbrev pub block_count : RecordCount → ℕ
block_count n = n.now - unwrap_or n.saved n.now

-- where calls left so many, a report has as many; without memory one more may stand last
abbrev pub IsCount : ℕ → Cause → ℕ → Type 0
IsCount count cause.NoMemory n = (count ≤ n) × (n ≤ count + 1)
IsCount count cause.Asked n = n ≡ count
IsCount count (cause.Conflict object holder at) n = n ≡ count
IsCount count (cause.Revoked object by at) n = n ≡ count
IsCount count (cause.Stuck failed) n = n ≡ count

-- what is looked at of a report, where calls left so many records: it has as many, and the compensations have legal ends
pub record IsCountedReport (tries count : ℕ) (report : Report) : Type 0 where
  pub many : IsCount count report.cause (length report.records)
  pub legal : AreLegal tries 1 report.records
