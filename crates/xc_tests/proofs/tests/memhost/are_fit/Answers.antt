use Rattle.std.proofs.Common.{subst}
use Rattle.std.specs.Prelude.{All}
use Rattle.std.proofs.lemmas.List.{take_all}
use Rattle.std.proofs.lemmas.List.Elements.{All-more}
use Rattle.xc_data.specs.Limits.{IsOpenedFit}
use Rattle.xc_tests.proofs.tests.memhost.are_fit.Goals as goal

pub loop-opened-preserved : goal.loop-opened-preserved
loop-opened-preserved c =
    All-more IsOpenedFit c.args.objects.now c.loop-opened.opened-index c.opened-item.result c.loop-opened-test.true c.loop-opened.invariant
    (subst IsOpenedFit c.opened-item.is (c.is_fit.ensures c.if-not-is_fit.false))

pub returns : goal.returns
returns c = λ _. subst (All IsOpenedFit) (take_all c.loop-opened.opened-index c.args.objects.now c.loop-opened-test.false) c.loop-opened.invariant
