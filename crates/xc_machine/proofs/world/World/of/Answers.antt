use Rattle.std.proofs.Common.{◌≤◌, length, subst, sym}
use Rattle.xc_world.specs.World.{World, beginning}
use Rattle.xc_world.specs.Sound.{IsSound}
use Rattle.xc_world.specs.Opening.{bare_world, opening_handles}
use Rattle.xc_world.proofs.Laws.{opening_words, opening_sound}
use Rattle.xc_machine.proofs.world.World.of.Goals as goal

pub returns-clause-sound : goal.returns-clause-sound
returns-clause-sound c = λ tx lt.
    subst (λ (w : World). IsSound w (beginning (opening_handles c.args.script.now)) tx) (sym c.in_ok-world.ensures)
    (opening_sound c.args.script.now c.requires tx lt)

pub returns-clause-words : goal.returns-clause-words
returns-clause-words c =
    let script = c.args.script.now in
    subst (λ (w : World). length w.words ≤ 4096) (sym c.in_ok-world.ensures)
    (subst (λ words. length words ≤ 4096) (sym (opening_words (bare_world script) 0 script.prologue.objects)) c.requires.words)
