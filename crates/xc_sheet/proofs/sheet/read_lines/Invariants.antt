use Rattle.std.proofs.Common.{length}
use Rattle.xc_sheet.proofs.Readings.{IsReading}
use Rattle.xc_sheet.proofs.sheet.read_lines.Given as goal

-- what was read so far, and the place behind it
abbrev pub invariant-loop-rest : goal.invariant-loop-rest
invariant-loop-rest l = IsReading l.text l.lines l.place l.rest

abbrev pub decreases-loop-rest : goal.decreases-loop-rest
decreases-loop-rest l = length l.rest
