use Rattle.std.proofs.Common.{subst, sym}
use Rattle.xc_data.specs.declared.entry.Event.TheVariants.{Turned}
use Rattle.xc_turnstile.specs.Insides.{IsOutside}
use Rattle.xc_runner.specs.Tries.{HasTried}
use Rattle.xc_runner.proofs.Steps.{waits_further}
use Rattle.xc_runner.proofs.worker.turn.Goals.{then-not-is_held+in-Held, else-not-is_held}
use Rattle.xc_runner.proofs.worker.turn.Goals as goal

pub loop-preserved : goal.loop-preserved
loop-preserved g c =
    elim c.if-not-is_held.branch [
      | then-not-is_held+in-Held w ↦ record {
        runs = (tt, tt);
        outside = subst (IsOutside c.args.pass) (sym w.mine-is)
            (waits_further _ _ _ _ c.loop.invariant.outside
            (subst (HasTried (λ answer. Turned c.args.job answer) c.loop.mine w.try_turn-back.result.0) w.in-Held.is w.try_turn-back.ensures));
      }
      | else-not-is_held w ↦ record { runs = (tt, tt); outside = subst (IsOutside c.args.pass) (sym w.mine-is) c.loop.invariant.outside }
    ]
