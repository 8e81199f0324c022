use Rattle.std.proofs.Common.{◌≡◌, ◌+◌, ◌-◌, ◌≤◌, ◌<◌, length, take, IsTrue}
use Rattle.xc_data.specs.Counts.{RisesBy}
use Rattle.xc_data.specs.declared.script.HostCallKind.TheVariants.{Restore}
use Rattle.xc_host.specs.Contents.{wrote_front}
use Rattle.xc_host.specs.Uses.{Uses, MovesBy}
use Rattle.xc_compensate.specs.Restoring.{FitsIn}
use Rattle.xc_compensate.proofs.undoing.restore_whole.Given as goal

abbrev pub invariant-loop-progress : goal.invariant-loop-progress
invariant-loop-progress g l =
    let model = g.H.Host.model in
    record {
      room : l.progress.done ≤ length l.bytes;
      left : l.progress.faults < l.tries;
      fits : IsTrue model.tells → FitsIn (model.contents l.host) l.file l.at l.bytes;
      told : IsTrue model.tells → model.contents l.host ≡ wrote_front (model.contents l.fn.host) l.file l.at (take l.progress.done l.bytes);
      uses : Uses model (record { old = l.fn.host; new = l.host }) (MovesBy Restore l.progress.done l.progress.faults);
      faults : RisesBy l.progress.faults (model.fault_count l.fn.host) (model.fault_count l.host);
    }

-- the bytes and the tries that are left
abbrev pub decreases-loop-progress : goal.decreases-loop-progress
decreases-loop-progress g l = (length l.bytes - l.progress.done) + (l.tries - l.progress.faults)
