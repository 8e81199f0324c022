-- What may disturb a run beside faults and want of memory.
use Rattle.std.specs.Prelude.{Bool, true, false, List}
use Rattle.std.specs.List.{list_all}
use Rattle.xc_data.specs.declared.entry.Entry.{Entry}
use Rattle.xc_data.specs.declared.entry.JobEnd.{JobEnd}
use Rattle.xc_data.specs.declared.entry.JobEnd.TheVariants as job_end
use Rattle.xc_data.specs.declared.entry.JobLine.{JobLine}
use Rattle.xc_model.specs.Serial.{is_alone}

-- no attempt of a journal met another: none is to be tried again
abbrev pub all_alone : List Entry → Bool
all_alone journal = list_all (λ (e : Entry). is_alone e.outcome) journal

-- an end by a full journal
abbrev pub is_full_end : JobEnd → Bool
is_full_end job_end.JournalFull = true
is_full_end job_end.Done = false
is_full_end (job_end.GaveUp cause) = false
is_full_end job_end.NoMemory = false

-- a job found the journal full
abbrev pub is_full : JobLine → Bool
is_full line = is_full_end line.end
