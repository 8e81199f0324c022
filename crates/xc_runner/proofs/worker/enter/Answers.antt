use Rattle.std.proofs.Common.{arith, refl}
use Rattle.xc_turnstile.proofs.Laws.{outside_further}
use Rattle.xc_runner.proofs.worker.enter.Goals as goal

pub loop-init : goal.loop-init
loop-init g c = record { runs = (tt, tt); outside = record { table = refl; lost = c.args.pass.view.lost; more = omega arith; view = refl } }

pub loop-preserved : goal.loop-preserved
loop-preserved g c = record { runs = (tt, tt); outside = outside_further _ _ _ c.loop.invariant.outside c.in-Err.ensures.err }
