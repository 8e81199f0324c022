use Rattle.std.proofs.Common.{◌≡◌, replicate, IsTrue}
use Rattle.xc_data.specs.Counts.{RisesBy}
use Rattle.xc_host.specs.Model.{IsUsed}
use Rattle.xc_host.specs.Uses.{back_kind}
use Rattle.xc_compensate.proofs.taking_back.take_back.Given as goal

-- each try so far failed, and changed nothing
abbrev pub invariant-loop-faults : goal.invariant-loop-faults
invariant-loop-faults g l =
    let model = g.H.Host.model in
    record {
      told : IsTrue model.tells → model.contents l.host ≡ model.contents l.fn.host;
      used : IsUsed model (replicate l.faults (back_kind l.undo)) (record { old = l.fn.host; new = l.host });
      counted : RisesBy l.faults (model.fault_count l.fn.host) (model.fault_count l.host);
    }
