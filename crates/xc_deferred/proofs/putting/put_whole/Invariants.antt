use Rattle.std.proofs.Common.{◌≡◌, ◌+◌, ◌-◌, ◌<◌, ◌≤◌, true, false, length, take, IsTrue}
use Rattle.xc_data.specs.declared.script.HostCallKind.TheVariants.{Put}
use Rattle.xc_host.specs.Pipes.{has_pipe, pipe_in, put_front}
use Rattle.xc_host.specs.Uses.{Uses, MovesBy}
use Rattle.xc_deferred.proofs.putting.put_whole.Given as goal

-- a front is put so far, and no fault came
abbrev pub invariant-loop-done : goal.invariant-loop-done
invariant-loop-done g l =
    let model = g.H.Host.model in
    record {
      room : l.done ≤ length l.bytes;
      there : IsTrue model.tells → has_pipe (model.contents l.host) l.pipe ≡ true;
      unshut : IsTrue model.tells → (pipe_in (model.contents l.host) l.pipe).shut ≡ false;
      behind : IsTrue model.tells → 0 < length l.bytes → length (pipe_in (model.contents l.host) l.pipe).held + length l.bytes ≤ 4096 + l.done;
      told : IsTrue model.tells → model.contents l.host ≡ put_front (model.contents l.fn.host) l.pipe (take l.done l.bytes);
      uses : Uses model (record { old = l.fn.host; new = l.host }) (MovesBy Put l.done 0);
      faults : model.fault_count l.host ≡ model.fault_count l.fn.host;
    }

abbrev pub decreases-loop-done : goal.decreases-loop-done
decreases-loop-done g l = length l.bytes - l.done
