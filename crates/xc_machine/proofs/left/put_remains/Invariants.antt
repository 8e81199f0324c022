use Rattle.std.proofs.Common.{◌≡◌, drop}
use Rattle.xc_world.specs.Ends.{remains, with_remains}
use Rattle.xc_machine.proofs.left.put_remains.Given as goal

-- what remains of those that are left leads to the same world
abbrev pub invariant-loop-ended : goal.invariant-loop-ended
invariant-loop-ended l = with_remains l.world (remains (drop l.ended-index l.records)) ≡ with_remains l.fn.world (remains l.records)
