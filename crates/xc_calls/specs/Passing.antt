-- What a call does that no check refused: from where it stands to where it stands after it.
use Rattle.std.specs.Prelude.{◌≡◌, true, IsTrue, Result, IfOk, OnErr}
use Rattle.xc_data.specs.Counts.{CountsFault}
use Rattle.xc_data.specs.Step.{Step}
use Rattle.xc_data.specs.declared.memory.NoMemory.{NoMemory}
use Rattle.xc_data.specs.declared.call.Call.{Call}
use Rattle.xc_data.specs.declared.call.Reply.{Reply}
use Rattle.xc_world.specs.Replies.{may_reply}
use Rattle.xc_host.specs.Model.{HostModel}
use Rattle.xc_host.specs.Uses.{Uses}
use Rattle.xc_compensate.specs.Records.{AtHost}
use Rattle.xc_calls.specs.Calls.{CallState, call_view, ActsAsPlain, IsMePassed, PassedBy, replies_fault}

-- ---- at the host and the records
module _ {H : Type 0} (model : HostModel H) (step : Step (AtHost H)) where
  -- the records stay, and the host's contents, where it tells
  pub record IsAsBefore : Type 0 where
    pub undo : step.new.undo ≡ step.old.undo
    pub contents : IsTrue model.tells → model.contents step.new.host ≡ model.contents step.old.host

-- ---- at the host, the private state and the records
-- the host and the records of a transaction at it
abbrev pub at_host : {H : Type 0} → Step (CallState H) → Step (AtHost H)
at_host step = record {
  old = record { host = step.old.host; undo = step.old.undo };
  new = record { host = step.new.host; undo = step.new.undo };
}

-- a call that no check refused: its reply is one that may come, the host was called for it, and the private state is that of
-- the reply, or as before where memory ran out. Where the host tells, it is the plain machine's step. A fault is counted
pub record Passes {H : Type 0} (model : HostModel H) (call : Call) (step : Step (CallState H)) (result : Result Reply NoMemory)
    : Type 0 where
  pub reply : IfOk result (λ reply. may_reply call reply ≡ true)
  pub uses : Uses model (record { old = step.old.host; new = step.new.host }) (PassedBy call result)
  pub after : IfOk result (IsMePassed step.old.number call step.old.me step.new.me)
  pub acts : IsTrue model.tells → IfOk result (ActsAsPlain call (call_view model step.old) (call_view model step.new))
  pub err : OnErr result (step.new.me ≡ step.old.me)
  pub cause : CountsFault (replies_fault result) (model.fault_count step.old.host) (model.fault_count step.new.host)
