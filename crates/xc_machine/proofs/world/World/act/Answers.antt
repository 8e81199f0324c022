use Rattle.std.proofs.Common.{subst}
use Rattle.xc_world.specs.Act.Step.{Stepped}
use Rattle.xc_world.specs.Sound.{IsSound}
use Rattle.xc_world.proofs.Laws.{act_sound}
use Rattle.xc_machine.proofs.world.World.act.Goals as goal

pub returns-clause-sound : goal.returns-clause-sound
returns-clause-sound c =
    subst (λ (s : Stepped). IsSound s.world s.me c.args.tx) c.in_ok-reply.ensures.ok
    (act_sound c.args.self.now c.args.me.now c.args.tx c.args.call.now c.args.answer c.requires.fits c.requires.sound)
