-- What making a pipe does.
use Rattle.std.specs.Prelude.{◌≡◌, ℕ, ◌++◌, List, [], ◌∷◌, Result, IfOk, OnErr, IsTrue}
use Rattle.xc_data.specs.Counts.{CountsFault}
use Rattle.xc_data.specs.Step.{Step}
use Rattle.xc_data.specs.Private.{with_place}
use Rattle.xc_data.specs.declared.call.Reply.{Reply}
use Rattle.xc_data.specs.declared.call.Reply.TheVariants.{Made, Fault}
use Rattle.xc_data.specs.declared.memory.NoMemory.{NoMemory}
use Rattle.xc_data.specs.declared.object.Num.{Num}
use Rattle.xc_data.specs.declared.private.Place.TheVariants.{Pipe}
use Rattle.xc_data.specs.declared.private.Private.{Private}
use Rattle.xc_data.specs.declared.undo.Undo.{Undo}
use Rattle.xc_data.specs.declared.undo.Undo.TheVariants.{NewPipe}
use Rattle.xc_world.specs.Act.Names.{making}
use Rattle.xc_compensate.specs.Records.{AtHost}
use Rattle.xc_calls.specs.Calls.{replies_fault}
use Rattle.xc_calls.specs.Passing.{IsAsBefore}
use Rattle.xc_host.specs.Contents.{Contents}
use Rattle.xc_host.specs.Model.{HostModel}
use Rattle.xc_host.specs.Pipes.{with_new_pipe}

-- what the making of a pipe of this number did with this reply: it is there, at this handle, or nothing changed
abbrev pub MakesPipe : Step Contents → Num → ℕ → Reply → Type 0
MakesPipe c num h (Made k) = (k ≡ h) × (c.new ≡ with_new_pipe c.old num)
MakesPipe c num h (Fault n) = (n ≡ 0) × (c.new ≡ c.old)
-- it has no other reply
MakesPipe c num h _ = ⊥

-- it replies with this handle, or a fault of no byte
abbrev pub IsPipeMadeAt : ℕ → Reply → Type 0
IsPipeMadeAt h (Made k) = k ≡ h
IsPipeMadeAt h (Fault n) = n ≡ 0
-- it has no other reply
IsPipeMadeAt h _ = ⊥

-- the record of a pipe that was made
abbrev pub pipe_made_record : Num → Reply → List Undo
pipe_made_record num (Made h) = NewPipe num ∷ []
-- with any other reply nothing was made
pipe_made_record num _ = []

-- where a pipe was made, it stands at its handle, and one object more is made
abbrev pub with_pipe_made : Private → ℕ → Num → Reply → Private
with_pipe_made me h num (Made k) = making (with_place me h (Pipe num))
-- with any other reply nothing was made
with_pipe_made me h num _ = me

-- a pipe of this number is made for this handle: what it replies, does and records; where memory ran out, all is as before
pub record IsMakingPipe {H : Type 0} (model : HostModel H) (num : Num) (h : ℕ) (step : Step (AtHost H)) (result : Result Reply NoMemory)
    : Type 0 where
  pub made : IfOk result (IsPipeMadeAt h)
  pub told : IsTrue model.tells → IfOk result (MakesPipe (record {
    old = model.contents step.old.host;
    new = model.contents step.new.host;
  }) num h)
  pub records : IfOk result (λ reply. step.new.undo ≡ record { pending = step.old.undo.pending ++ pipe_made_record num reply; ended = [] })
  pub err : OnErr result (IsAsBefore model step)
  pub cause : CountsFault (replies_fault result) (model.fault_count step.old.host) (model.fault_count step.new.host)
