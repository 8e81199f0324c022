use Rattle.std.proofs.Common.{refl, ◌∙◌}
use Rattle.xc_turnstile.specs.Insides.{MayFollow}
use Rattle.xc_turnstile.specs.Pairs.{Changes}
use Rattle.xc_turnstile.proofs.Pairs.{enters_once, leaves_begins, leaves_event, leaves_origin}
use Rattle.xc_turnstile.proofs.pair.try_change.Goals as goal

pub leave-requires : goal.leave-requires
leave-requires g c =
    let m = g.V.Chronicle.meaning in
    let x = c.in-Inside.value in
    let y = c.change.new.arg2 in
    let follows : MayFollow m x y = c.requires.keeps c.args.change.now c.change.new.self x y
    (record { shown = _; shows = refl; left = _; met = c.change.ensures.met; leaves = refl }) in
    record {
      table = c.in-Inside.ensures.0 ∙ c.requires.table;
      begins = leaves_begins m c.args.pass c.in-Inside.hold x y c.in-Inside.ensures follows;
      origin = leaves_origin m c.args.pass c.in-Inside.hold x y c.in-Inside.ensures follows;
      event = leaves_event m c.args.pass c.in-Inside.hold x y c.in-Inside.ensures follows;
      room = follows.room;
    }

pub returns-in-Inside-clause-ok : goal.returns-in-Inside-clause-ok
returns-in-Inside-clause-ok g c =
    let m = g.V.Chronicle.meaning in
    let x = c.in-Inside.value in
    let y = c.change.new.arg2 in
    let changed : Changes g.F.FnMut c.args.change.now c.change.new.self x y =
    record { shown = _; shows = refl; left = _; met = c.change.ensures.met; leaves = refl } in
    enters_once m c.args.pass c.in-Inside.hold x y c.in-Inside.ensures (c.requires.keeps c.args.change.now c.change.new.self x y changed)
    (Changes g.F.FnMut c.args.change.now c.change.new.self) changed c.leave.result c.leave.ensures.table c.leave.ensures.view
