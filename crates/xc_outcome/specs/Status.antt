-- The numbers of the statuses.
use Rattle.std.specs.Prelude.{ℕ}
use Rattle.xc_outcome.specs.declared.finish.Status.{Status}
use Rattle.xc_outcome.specs.declared.finish.Status.TheVariants.{Done, Refused, Usage, ReadFault, WriteFault}
use Rattle.xc_outcome.specs.declared.finish.Status.TheVariants.{NoMemory, Left, GaveUp, NotScripted}

-- a status as the program's exit status
abbrev pub status_number : Status → ℕ
status_number Done = 0
status_number (Refused line why) = 1
status_number Usage = 2
status_number ReadFault = 3
status_number WriteFault = 4
status_number NoMemory = 5
status_number Left = 6
status_number GaveUp = 7
status_number NotScripted = 8
