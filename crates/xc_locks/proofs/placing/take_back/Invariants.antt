use Rattle.std.proofs.Common.{drop}
use Rattle.xc_locks.proofs.Claimed.{Removing}
use Rattle.xc_locks.proofs.placing.take_back.Given as goal

-- without the objects that are left the transaction holds what it held at first without all
abbrev pub invariant-loop-object : goal.invariant-loop-object
invariant-loop-object g l = Removing l.tx l.fn.holders l.holders l.objects (drop l.object-index l.objects)
