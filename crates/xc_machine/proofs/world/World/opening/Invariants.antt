use Rattle.std.proofs.Common.{◌≡◌, drop}
use Rattle.xc_world.specs.Opening.{opening, with_all_opened}
use Rattle.xc_machine.proofs.world.World.opening.Given as goal

-- the world so far, and then the lines that are left
abbrev pub invariant-loop-line : goal.invariant-loop-line
invariant-loop-line l = with_all_opened l.world l.line (drop l.line l.script.prologue.objects) ≡ opening l.script
