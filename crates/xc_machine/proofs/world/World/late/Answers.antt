use Rattle.std.proofs.Common.{subst}
use Rattle.xc_world.specs.Late.{Ended}
use Rattle.xc_world.specs.Sound.{IsSound}
use Rattle.xc_world.proofs.Laws.{late_sound}
use Rattle.xc_machine.proofs.world.World.late.Goals as goal

pub returns-clause-sound : goal.returns-clause-sound
returns-clause-sound c = λ me tx sound.
    subst (λ (e : Ended). IsSound e.world me tx) c.in_ok-end.ensures.ok
    (late_sound c.args.self.now me tx c.args.call.now c.args.answer c.requires.short c.requires.there sound)
