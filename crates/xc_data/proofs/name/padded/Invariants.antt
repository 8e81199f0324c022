use Rattle.std.proofs.Common.{◌≡◌, ◌-◌, ◌++◌, take, replicate}
use Rattle.xc_data.proofs.name.padded.Given as goal

-- the bytes so far, with zeros after them
abbrev pub invariant-loop-i : goal.invariant-loop-i
invariant-loop-i l = l.places ≡ take l.i l.bytes ++ replicate (64 - l.i) 0
