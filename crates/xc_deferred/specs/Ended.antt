-- How a late call ends at the host.
use Rattle.std.specs.Prelude.{IsTrue}
use Rattle.xc_data.specs.Counts.{CountsFault}
use Rattle.xc_data.specs.Faults.{is_fault_end}
use Rattle.xc_data.specs.Step.{Step}
use Rattle.xc_data.specs.declared.call.LateCall.{LateCall}
use Rattle.xc_data.specs.declared.call.LateEnd.{LateEnd}
use Rattle.xc_host.specs.Model.{HostModel}
use Rattle.xc_host.specs.Uses.{Uses, LatesFor}
use Rattle.xc_deferred.specs.Does.{EndsAsPlain}

-- the call came to this end: a fault is counted exactly where it ended in one, and the host was called so; where the host tells,
-- the end and what it did are the plain machine's
pub record EndsAt {H : Type 0} (model : HostModel H) (call : LateCall) (step : Step H) (end : LateEnd) : Type 0 where
  pub cause : CountsFault (is_fault_end end) (model.fault_count step.old) (model.fault_count step.new)
  pub uses : Uses model step (LatesFor call end)
  pub does : IsTrue model.tells → EndsAsPlain (model.contents step.old) (model.contents step.new) call end
