use Rattle.std.proofs.Common.{subst, length}
use Rattle.xc_data.specs.declared.script.HostCallKind.TheVariants.{Restore}
use Rattle.xc_host.specs.Uses.{Uses, MovesBy}
use Rattle.xc_compensate.proofs.Calling.{restored_more, step_within, few_yet}
use Rattle.xc_compensate.proofs.undoing.restore_whole.Goals as goal

pub returns-then-progress-tries-clause-uses : goal.returns-then-progress-tries-clause-uses
returns-then-progress-tries-clause-uses g c =
    let model = g.H.Host.model in
    subst (λ n. Uses model (record { old = c.args.host.now; new = c.restore_more-progress.new.host }) (MovesBy Restore c.restore_more-progress.result.done n))
    c.if-progress-tries.true
    (restored_more model c.loop-progress.progress c.restore_more-progress.result (length c.args.bytes.now) c.args.host.now c.loop-progress.host
    c.restore_more-progress.new.host c.restore_more-progress.ensures.step c.loop-progress.invariant.uses c.restore_more-progress.ensures.used)

pub loop-progress-preserved : goal.loop-progress-preserved
loop-progress-preserved g c =
    let was = c.loop-progress.invariant in
    let next = c.restore_more-progress.ensures in
    record {
      room = step_within _ _ _ next.step was.room;
      left = few_yet _ _ _ c.args.tries next.step was.left c.if-progress-tries.false;
      fits = next.fits;
      told = λ t. next.effect t (g.H.Host.model.contents c.args.host.now) (c.requires.fits t) (was.told t);
      uses = restored_more g.H.Host.model c.loop-progress.progress c.restore_more-progress.result (length c.args.bytes.now) c.args.host.now
          c.loop-progress.host c.restore_more-progress.new.host next.step was.uses next.used;
      faults = next.faults _ was.faults;
    }
