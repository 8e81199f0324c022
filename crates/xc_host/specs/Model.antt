-- Hosts, as contracts see them.
use Rattle.std.specs.Prelude.{◌≡◌, ℕ, Bool, [], ◌∷◌, List, Option, Result, IfOk, OnErr, IsTrue}
use Rattle.xc_data.specs.Counts.{CountsFault}
use Rattle.xc_data.specs.declared.script.FaultLine.{FaultLine}
use Rattle.xc_data.specs.declared.script.HostCallKind.{HostCallKind}
use Rattle.xc_data.specs.declared.script.Prologue.{Prologue}
use Rattle.xc_data.specs.Step.{Step}
use Rattle.xc_host.specs.Cause.{is_fault, IsCalled}
use Rattle.xc_host.specs.Contents.{Contents}
use Rattle.xc_host.specs.declared.errors.HostErr.{HostErr}

-- which calls of a host fail, and how many bytes one of them moves at most
pub record Plan : Type 0 where
  pub faults : List FaultLine
  pub grain : Option ℕ

-- those of a prologue
abbrev pub plan_of : Prologue → Plan
plan_of prologue = record { faults = prologue.faults; grain = prologue.grain }

-- what contracts see of a kind of host
pub record HostModel (H : Type 0) : Type 0 where
  -- whether it tells its contents
  pub tells : Bool
  -- whether it follows the prologue of a script
  pub takes_scripts : Bool
  -- what it holds, where it tells
  pub contents : H → Contents
  -- how often it has answered a fault; at the last value of a u64 it stays
  pub fault_count : H → ℕ
  -- how many calls of each kind it has had since it was opened; at the last value of a u64 a count stays
  pub calls : H → HostCallKind → ℕ
  -- what the prologue said with which it was opened last
  pub plan : H → Plan

-- it was called so, with so many faults, and follows the same plan
pub record IsUsed {H : Type 0} (model : HostModel H) (made : List HostCallKind) (step : Step H) : Type 0 where
  pub called : IsCalled made (model.calls step.old) (model.calls step.new)
  pub plan : model.plan step.new ≡ model.plan step.old

-- one call of a host. Over one that tells, its contents after an answer are what the effect makes of those before, and where
-- the call failed they are as before. The count of faults rises exactly where it answers a fault
pub record Answers {H T : Type 0} (model : HostModel H) (kind : HostCallKind) (step : Step H) (answer : Result T HostErr)
    (effect : T → Contents → Contents) : Type 0 where
  pub used : IsUsed model (kind ∷ []) step
  pub cause : CountsFault (is_fault answer) (model.fault_count step.old) (model.fault_count step.new)
  pub done : IsTrue model.tells → IfOk answer (λ x. model.contents step.new ≡ effect x (model.contents step.old))
  pub refused : IsTrue model.tells → OnErr answer (model.contents step.new ≡ model.contents step.old)
