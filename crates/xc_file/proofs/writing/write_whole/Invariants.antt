use Rattle.std.proofs.Common.{◌≡◌, ◌+◌, ◌-◌, ◌≤◌, true, length, take, IsTrue}
use Rattle.xc_data.specs.declared.script.HostCallKind.TheVariants.{WriteAt}
use Rattle.xc_host.specs.Contents.{file_in, has_file, wrote_front}
use Rattle.xc_host.specs.Uses.{Uses, MovesBy}
use Rattle.xc_file.proofs.writing.write_whole.Given as goal

-- a front is written so far, and no fault came
abbrev pub invariant-loop-done : goal.invariant-loop-done
invariant-loop-done g l =
    let model = g.H.Host.model in
    record {
      room : l.done ≤ length l.bytes;
      there : IsTrue model.tells → has_file (model.contents l.host) l.file ≡ true;
      inside : IsTrue model.tells → l.at + length l.bytes ≤ length (file_in (model.contents l.host) l.file);
      told : IsTrue model.tells → model.contents l.host ≡ wrote_front (model.contents l.fn.host) l.file l.at (take l.done l.bytes);
      uses : Uses model (record { old = l.fn.host; new = l.host }) (MovesBy WriteAt l.done 0);
      faults : model.fault_count l.host ≡ model.fault_count l.fn.host;
    }

abbrev pub decreases-loop-done : goal.decreases-loop-done
decreases-loop-done g l = length l.bytes - l.done
