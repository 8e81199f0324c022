use Rattle.std.proofs.Common.{arith}
use Rattle.xc_machine.proofs.MachineMaps.{moved_either_way}
use Rattle.xc_machine.proofs.world.World.move_name.Goals as goal

pub returns-clause-ok : goal.returns-clause-ok
returns-clause-ok c =
    let names = moved_either_way c.args.self.now.names c.args.from c.args.to c.args.num c.requires.there c.requires.absent in
    grind (arith, names, c.in_ok-insert.ensures.ok, c.remove.ensures.removed, c.self.view_is)
