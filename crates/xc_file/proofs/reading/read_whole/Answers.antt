use Rattle.std.proofs.Common.{◌+◌, ◌-◌, length, ◌∙◌, arith}
use Rattle.xc_data.specs.declared.script.HostCallKind.TheVariants.{ReadAt}
use Rattle.xc_host.proofs.Laws.{moves_more}
use Rattle.xc_calls.proofs.Laws.{always_err}
use Rattle.xc_file.proofs.FileUses.{reads_end, reads_fail}
use Rattle.xc_file.proofs.ReadFronts.{read_more_told}
use Rattle.xc_file.proofs.reading.read_whole.Goals as goal

pub returns-in_err-more-clause-uses_err : goal.returns-in_err-more-clause-uses_err
returns-in_err-more-clause-uses_err g c =
    always_err _ c.from_residual.result
    (reads_fail g.H.Host.model c.args.n c.loop-len.len c.args.host.now c.loop-len.host c.read_more.new.host c.loop-len-test.true
    c.loop-len.invariant.uses c.read_more.ensures.used)

pub returns-then-more-eq0-clause-uses : goal.returns-then-more-eq0-clause-uses
returns-then-more-eq0-clause-uses g c =
    reads_end g.H.Host.model c.args.n c.loop-len.len (length c.read_more.new.bytes.items) c.args.host.now c.loop-len.host c.read_more.new.host
    c.loop-len-test.true (omega (arith, c.in_ok-more.ensures.bound.1, c.if-more-eq0.true, c.loop-len.invariant.len))
    c.loop-len.invariant.uses c.read_more.ensures.used

pub loop-len-preserved : goal.loop-len-preserved
loop-len-preserved g c =
    let model = g.H.Host.model in
    let was = c.loop-len.invariant in
    let next = c.in_ok-more.ensures in
    record {
      len = omega (arith, next.bound.1, was.len);
      room = omega (arith, next.bound.0, c.loop-len-test.true);
      told = λ t. read_more_told _ _ c.args.file c.args.at c.loop-len.len (c.args.n - c.loop-len.len) c.in_ok-more.more _ _ (was.contents t) (was.told t)
          (next.value t);
      contents = λ t. next.looks.contents t ∙ was.contents t;
      uses = moves_more model ReadAt c.loop-len.len 0 (c.loop-len.len + c.in_ok-more.more) c.args.host.now c.loop-len.host c.read_more.new.host
          (omega (arith, c.if-more-eq0.false)) was.uses next.used;
      faults = next.looks.cause ∙ was.faults;
    }
