use Rattle.std.proofs.Common.{◌+◌, drop, ap, sym, ◌∙◌}
use Rattle.xc_world.specs.Ends.{remains, with_remains}
use Rattle.xc_machine.proofs.MachineRun.{left-cons}
use Rattle.xc_machine.proofs.MachineRemain.{remains_first}
use Rattle.xc_machine.proofs.left.put_remains.Goals as goal

pub loop-ended-preserved : goal.loop-ended-preserved
loop-ended-preserved c =
    let records = c.args.records.now in
    let i = c.loop-ended.ended-index in
    let ended = c.ended-item.result in
    let left = left-cons records i ended c.loop-ended-test.true c.ended-item.is in
    ap (λ w. with_remains w (remains (drop (i + 1) records))) c.in_ok-put_one.ensures
    ∙ sym (remains_first c.loop-ended.world ended.0 ended.1 (drop (i + 1) records))
    ∙ ap (λ rs. with_remains c.loop-ended.world (remains rs)) (sym left)
    ∙ c.loop-ended.invariant
