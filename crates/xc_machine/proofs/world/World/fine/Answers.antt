use Rattle.std.proofs.Common.{sym}
use Rattle.xc_machine.proofs.world.World.fine.Goals as goal

pub returns-in-XRename-clause-ok : goal.returns-in-XRename-clause-ok
returns-in-XRename-clause-ok c =
    rw c.in-XRename.is
    (rw (sym c.value-in-XRename.ensures) (rw (sym c.value-in-XRename-2.ensures) (c.rename.ensures.ok c.args.me.now)))
