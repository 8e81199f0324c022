use Rattle.std.proofs.Common.{◌≡◌, ℕ, ◌+◌, ◌-◌, ◌≤◌, true, length, replicate, IsTrue}
use Rattle.xc_data.specs.declared.script.HostCallKind.TheVariants.{Take}
use Rattle.xc_host.specs.Kept.{KeepsData}
use Rattle.xc_host.specs.Pipes.{has_pipe}
use Rattle.xc_host.specs.Uses.{Uses}
use Rattle.xc_pipe.specs.Reading.{GivesSameWorld}
use Rattle.xc_pipe.proofs.Behind.{Extends}
use Rattle.xc_pipe.proofs.reading.take_rest.Given as goal

-- a longer front was taken so far, and no fault came
abbrev pub invariant-loop-alloc : goal.invariant-loop-alloc
invariant-loop-alloc g l =
    let model = g.H.Host.model in
    record {
      most : length l.front ≤ l.n;
      least : length l.fn.kept_front ≤ length l.front;
      goes : Extends l.fn.kept_front l.front;
      same : l.kept ≡ l.fn.kept;
      there : IsTrue model.tells → has_pipe (model.contents l.host) l.pipe ≡ true;
      leads : IsTrue model.tells → GivesSameWorld l.pipe l.fn.kept_front l.front (record {
        old = record { contents = model.contents l.fn.host; items = l.fn.kept.items };
        new = record { contents = model.contents l.host; items = l.fn.kept.items };
      });
      keeps : IsTrue model.tells → KeepsData (model.contents l.fn.host) (model.contents l.host);
      uses : Uses model (record { old = l.fn.host; new = l.host }) (λ made. (count : ℕ) × (count + length l.fn.kept_front ≤ length l.front)
          × (made ≡ replicate count Take));
      faults : model.fault_count l.host ≡ model.fault_count l.fn.host;
    }

abbrev pub decreases-loop-alloc : goal.decreases-loop-alloc
decreases-loop-alloc g l = l.n - length l.front
