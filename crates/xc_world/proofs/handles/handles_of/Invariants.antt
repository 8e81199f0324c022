use Rattle.std.proofs.Common.{◌≡◌, ◌++◌, drop}
use Rattle.xc_world.specs.Opening.{handles_of}
use Rattle.xc_world.proofs.handles.handles_of.Given as goal

-- the handles so far, and then those of the lines that are left
abbrev pub invariant-loop-line : goal.invariant-loop-line
invariant-loop-line l = l.places ++ handles_of l.line (drop l.line l.objects) ≡ handles_of 0 l.objects
