use Rattle.std.proofs.Common.{take}
use Rattle.std.specs.Prelude.{All}
use Rattle.xc_data.specs.Limits.{IsOpenedFit}
use Rattle.xc_tests.proofs.tests.memhost.are_fit.Given as goal

abbrev pub invariant-loop-opened : goal.invariant-loop-opened
invariant-loop-opened l = All IsOpenedFit (take l.opened-index l.objects)
