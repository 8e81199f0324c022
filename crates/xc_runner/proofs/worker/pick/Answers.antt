use Rattle.std.proofs.Common.{subst, sym}
use Rattle.xc_data.specs.declared.entry.Event.TheVariants.{Picked}
use Rattle.xc_turnstile.specs.Insides.{IsOutside}
use Rattle.xc_runner.specs.Tries.{HasTried}
use Rattle.xc_runner.proofs.Steps.{waits_further}
use Rattle.xc_runner.proofs.worker.pick.Goals.{then-not-is_held+in-Held, else-not-is_held}
use Rattle.xc_runner.proofs.worker.pick.Goals as goal

pub loop-preserved : goal.loop-preserved
loop-preserved g c =
    elim c.if-not-is_held.branch [
      | then-not-is_held+in-Held w ↦ record {
        runs = (tt, tt);
        outside = subst (IsOutside c.args.pass) (sym w.mine-is)
            (waits_further _ _ _ _ c.loop.invariant.outside
            (subst (HasTried (λ job. Picked job) c.loop.mine w.try_pick-back.result.0) w.in-Held.is w.try_pick-back.ensures.tried));
      }
      | else-not-is_held w ↦ record { runs = (tt, tt); outside = subst (IsOutside c.args.pass) (sym w.mine-is) c.loop.invariant.outside }
    ]
