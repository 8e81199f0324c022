use Rattle.std.proofs.Common.{Ok, ◌∙◌, ap, subst, cond, length}
use Rattle.xc_data.specs.declared.script.HostCallKind.TheVariants.{WriteAt}
use Rattle.xc_host.specs.Uses.{Uses, MovesBy}
use Rattle.xc_file.proofs.FileUses.{overwrites_all, overwrites_front, looked_there}
use Rattle.xc_file.proofs.overwriting.overwrite.Goals as goal

pub returns-then-written-clause-uses : goal.returns-then-written-clause-uses
returns-then-written-clause-uses g c =
    let model = g.H.Host.model in
    let written = c.in_ok-written.written in
    overwrites_front model c.args.file.h written.done c.args.bytes.now c.args.host.now c.bytes_under.new.host c.write_recorded.new.host c.requires.some
    (looked_there model (length c.args.bytes.now) c.len.result c.bytes_under.result c.in-Ok-Some.before _ _ c.len.ensures.value
    (c.in-Ok-Some.is ∙ ap Ok c.in-Ok-Some.field-0-is) c.bytes_under.ensures.uses)
    (subst (λ b. Uses model (record { old = c.bytes_under.new.host; new = c.write_recorded.new.host }) (MovesBy WriteAt written.done (cond b 1 0)))
    c.if-written.true c.in_ok-written.ensures.uses)

pub returns-clause-uses : goal.returns-clause-uses
returns-clause-uses g c =
    let model = g.H.Host.model in
    let written = c.in_ok-written.written in
    overwrites_all model c.args.file.h written.done c.args.bytes.now c.args.host.now c.bytes_under.new.host c.write_recorded.new.host c.requires.some
    (c.in_ok-written.ensures.whole c.if-written.false)
    (looked_there model (length c.args.bytes.now) c.len.result c.bytes_under.result c.in-Ok-Some.before _ _ c.len.ensures.value
    (c.in-Ok-Some.is ∙ ap Ok c.in-Ok-Some.field-0-is) c.bytes_under.ensures.uses)
    (subst (λ b. Uses model (record { old = c.bytes_under.new.host; new = c.write_recorded.new.host }) (MovesBy WriteAt written.done (cond b 1 0)))
    c.if-written.false c.in_ok-written.ensures.uses)
