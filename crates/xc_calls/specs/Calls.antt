-- What a call does: to a host, to the private state of a transaction at it, and to its records.
use Rattle.std.specs.Prelude.{◌≡◌, ◌⊎◌, ℕ, ◌≤◌, ◌++◌, Bool, true, false, List, []}
use Rattle.std.specs.Prelude.{length, IsTrue, IsSome, IsOk, Result, Ok, Err, IfOk, OnErr}
use Rattle.std.specs.declared.option.Option.TheVariants.{None}
use Rattle.xc_data.specs.Counts.{CountsFault}
use Rattle.xc_data.specs.Faults.{is_fault_reply}
use Rattle.xc_data.specs.declared.memory.NoMemory.{NoMemory}
use Rattle.xc_data.specs.declared.call.Call.{Call}
use Rattle.xc_data.specs.declared.call.Call.TheVariants as call
use Rattle.xc_data.specs.declared.call.Answer.{Answer}
use Rattle.xc_data.specs.declared.call.Answer.TheVariants.{Fine}
use Rattle.xc_data.specs.declared.call.Reply.{Reply}
use Rattle.xc_data.specs.declared.private.Private.{Private}
use Rattle.xc_data.specs.declared.script.HostCallKind.{HostCallKind}
use Rattle.xc_data.specs.declared.undo.Undo.{Undo}
use Rattle.xc_world.specs.World.{World}
use Rattle.xc_world.specs.After.{IsMeAfter, ArePlaces, made_after, stored_with_reply, bytes_in}
use Rattle.xc_world.specs.Checks.{IsChecked, refusal_of}
use Rattle.xc_world.specs.Replies.{may_reply}
use Rattle.xc_world.specs.Act.{act}
use Rattle.xc_world.specs.Act.Step.{step_to}
use Rattle.xc_world.specs.Fits.{fits, answer_of}
use Rattle.xc_world.specs.RecordOf.{AreRecordsOf, left_by}
use Rattle.xc_world.specs.Trail.{recorded}
use Rattle.xc_host.specs.Contents.{Contents, with_contents}
use Rattle.xc_host.specs.Model.{HostModel}
use Rattle.xc_host.specs.Uses.{Uses, CallsOf, CallsFor, StopsFor}
use Rattle.xc_compensate.specs.Records.{Records}

-- a host, and a transaction at it: its number, which stays, its private state and its records
pub record CallState (H : Type 0) : Type 0 where
  pub host : H
  pub number : ℕ
  pub me : Private
  pub undo : Records

-- the same over a host that tells, but for the records: what the plain machine knows of it
pub record CallView : Type 0 where
  pub contents : Contents
  pub number : ℕ
  pub me : Private

-- what a host that tells shows of a transaction at it
abbrev pub call_view : {H : Type 0} → HostModel H → CallState H → CallView
call_view model state = record { contents = model.contents state.host; number = state.number; me = state.me }

-- ---- what a call does
-- in every world with the host's contents the plain machine gives this reply, with the answer that the
-- reply records, the next private state, and the host's contents after the call
pub record ActsAsPlain (call : Call) (was is : CallView) (reply : Reply) : Type 0 where
  pub step : (w : World) → act (with_contents w was.contents) was.me was.number call (answer_of reply)
      ≡ step_to (with_contents w is.contents) is.me reply
  pub fits : (w : World) → IsTrue (fits (with_contents w was.contents) was.me was.number call (answer_of reply))

-- these are the plain machine's records of the call
abbrev pub AreRecorded : Call → CallView → List Undo → Reply → Type 0
AreRecorded call was made reply = (w : World) → made ≡ recorded (with_contents w was.contents) was.me was.number call reply

-- a call that reaches no host: in every world the plain machine's step, which leaves the world and no record;
-- refused exactly where a check refuses it, and else with a reply that may come
pub record StepsAlone (call : Call) (me next : Private) (reply : Reply) : Type 0 where
  pub step : (w : World) (number : ℕ) → act w me number call Fine ≡ step_to w next reply
  pub unrecorded : (w : World) (number : ℕ) → recorded w me number call reply ≡ []
  pub answer : answer_of reply ≡ Fine
  pub checked : IsChecked (refusal_of call me) call reply
  pub unchanged : IsSome (refusal_of call me) → next ≡ me
  pub after : (number : ℕ) → IsMeAfter number call reply me next
  -- it is none of those that call the host
  pub uncalled : CallsOf (refusal_of call me) call reply []

-- a reply is a fault; for lack of memory there is no reply
abbrev pub replies_fault : Result Reply NoMemory → Bool
replies_fault (Ok reply) = is_fault_reply reply
replies_fault (Err e) = false

-- calls that have all their memory before the host does anything; an append may want it after a front
abbrev pub takes_memory_first : Call → Bool
takes_memory_first (call.XWriteSeq h bytes) = false
-- every other call has to, also one yet to come
takes_memory_first _ = true

-- a call did its part at the host, as a record tells, before memory ran out for the rest
pub record DidPart (call : Call) (was : CallView) (is : Contents) (made : List Undo) : Type 0 where
  pub answer : Answer
  pub fits : (w : World) → IsTrue (fits (with_contents w was.contents) was.me was.number call answer)
  pub world : (w : World) → (act (with_contents w was.contents) was.me was.number call answer).world ≡ with_contents w is
  pub records : (w : World) → made
      ≡ recorded (with_contents w was.contents) was.me was.number call
      (act (with_contents w was.contents) was.me was.number call answer).reply

-- memory runs out: the private state is as before; nothing is changed, or the call did its part
pub record IsStarved {H : Type 0} (model : HostModel H) (call : Call) (old new : CallState H) (made : List Undo) : Type 0 where
  pub me : new.me ≡ old.me
  pub effect : IsTrue model.tells → ((made ≡ []) × (model.contents new.host ≡ model.contents old.host))
      ⊎ DidPart call (call_view model old) (model.contents new.host) made
  pub none : takes_memory_first call ≡ true → made ≡ []

-- the private state after a call that no check refused
pub record IsMePassed (tx : ℕ) (call : Call) (was is : Private) (reply : Reply) : Type 0 where
  pub places : ArePlaces tx call was reply is.places
  pub made : is.made ≡ made_after call reply was.made
  pub stored : is.stored ≡ stored_with_reply None call reply was.stored

-- a reply that may come of a call that no check refused, and that brings no bytes
abbrev pub IsPassedReply : Call → Reply → Type 0
IsPassedReply call reply = (may_reply call reply ≡ true) × (bytes_in reply ≡ 0)

-- the calls of the host by the end of a call that no check refused
abbrev pub PassedBy : Call → Result Reply NoMemory → List HostCallKind → Type 0
PassedBy call (Ok reply) made = CallsFor call reply made
PassedBy call (Err e) made = StopsFor call made

-- which calls of the host are made by the end of a call: those of its reply, or where memory ran out the first of them
abbrev pub MadeByCall : Call → Private → Result Reply NoMemory → List HostCallKind → Type 0
MadeByCall call me (Ok reply) made = CallsOf (refusal_of call me) call reply made
MadeByCall call me (Err e) made = StopsFor call made

-- a call, over any host
pub record IsHostCall {H : Type 0} (model : HostModel H) (call : Call) (old new : CallState H)
    (result : Result Reply NoMemory) : Type 0 where
  -- refused exactly where a check refuses it, with its reply; then nothing is changed, and the host isn't called. Else the reply
  -- is one that may come of the call
  pub checked : IfOk result (IsChecked (refusal_of call old.me) call)
  pub unchanged : IsSome (refusal_of call old.me) → (new ≡ old) × IsOk result
  -- whatever the host says, the private state is that of the reply
  pub after : IfOk result (λ reply. IsMeAfter old.number call reply old.me new.me)
  -- it called the host so
  pub uses : Uses model (record { old = old.host; new = new.host }) (MadeByCall call old.me result)
  -- the older records stay, and one comes after them exactly where the call with its reply leaves one, which is of this call
  pub made : List Undo
  pub one : length made ≤ 1
  pub kinds : IfOk result (λ reply. AreRecordsOf (left_by call reply) made)
  pub undo : new.undo ≡ record old.undo { pending = old.undo.pending ++ made }
  -- where the host tells, the step and the records are the plain machine's
  pub acts : IsTrue model.tells → IfOk result (ActsAsPlain call (call_view model old) (call_view model new))
  pub records : IsTrue model.tells → IfOk result (AreRecorded call (call_view model old) made)
  -- the host's count rose exactly where the reply is a fault
  pub cause : CountsFault (replies_fault result) (model.fault_count old.host) (model.fault_count new.host)
  pub memory : OnErr result (IsStarved model call old new made)
