use Rattle.std.proofs.Common.{arith, sym, ◌∙◌}
use Rattle.xc_machine.proofs.MachineCounts.{passed-countable}
use Rattle.xc_machine.proofs.world.World.step.Goals as goal

pub count-requires-clause-stored : goal.count-requires-clause-stored
count-requires-clause-stored c =
    let counts =
    passed-countable c.args.self.now c.done.new.self c.args.me.now c.done.new.me c.args.tx c.args.call.now c.args.answer c.in_ok-reply.reply
    c.requires.sound c.requires.fits (sym c.is_too_big.ensures ∙ c.if-is_too_big.false)
    (sym c.is_too_much.ensures ∙ c.if-is_too_much.false) c.in_ok-reply.ensures.ok in
    omega (arith, counts.stored)

pub count-requires-clause-reply : goal.count-requires-clause-reply
count-requires-clause-reply c =
    let counts =
    passed-countable c.args.self.now c.done.new.self c.args.me.now c.done.new.me c.args.tx c.args.call.now c.args.answer c.in_ok-reply.reply
    c.requires.sound c.requires.fits (sym c.is_too_big.ensures ∙ c.if-is_too_big.false)
    (sym c.is_too_much.ensures ∙ c.if-is_too_much.false) c.in_ok-reply.ensures.ok in
    counts.short
