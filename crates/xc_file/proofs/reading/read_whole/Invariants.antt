use Rattle.std.proofs.Common.{◌≡◌, ◌-◌, ◌≤◌, length, take, drop, IsTrue}
use Rattle.xc_data.specs.declared.script.HostCallKind.TheVariants.{ReadAt}
use Rattle.xc_host.specs.Contents.{file_in}
use Rattle.xc_host.specs.Uses.{Uses, MovesBy}
use Rattle.xc_file.proofs.reading.read_whole.Given as goal

-- what is read so far is a front, and no fault came
abbrev pub invariant-loop-len : goal.invariant-loop-len
invariant-loop-len g l =
    let model = g.H.Host.model in
    record {
      len : length l.bytes.items ≡ l.len;
      room : l.len ≤ l.n;
      told : IsTrue model.tells → l.bytes.items ≡ take l.len (drop l.at (file_in (model.contents l.fn.host) l.file));
      contents : IsTrue model.tells → model.contents l.host ≡ model.contents l.fn.host;
      uses : Uses model (record { old = l.fn.host; new = l.host }) (MovesBy ReadAt l.len 0);
      faults : model.fault_count l.host ≡ model.fault_count l.fn.host;
    }

abbrev pub decreases-loop-len : goal.decreases-loop-len
decreases-loop-len g l = l.n - l.len
