-- What a call of a running transaction needs, and what it does.
use Rattle.std.specs.Prelude.{◌≡◌, ◌⊎◌, ℕ, ◌≤◌, false, List, [], ◌++◌, length, All, IsTrue, Result, Ok, Err}
use Rattle.std.specs.declared.option.Option.TheVariants.{None}
use Rattle.xc_buffers.specs.Items.{keeps_pair, kept_bytes}
use Rattle.xc_data.specs.Counts.{CountsFault}
use Rattle.xc_data.specs.Faults.{is_fault_reply}
use Rattle.xc_data.specs.Private.{IsSided, place_of}
use Rattle.xc_data.specs.Step.{Step}
use Rattle.xc_data.specs.declared.call.Answer.{Answer}
use Rattle.xc_data.specs.declared.call.Call.{Call}
use Rattle.xc_data.specs.declared.call.Call.TheVariants as call
use Rattle.xc_data.specs.declared.call.Reply.{Reply}
use Rattle.xc_data.specs.declared.claim.Claim.{Claim}
use Rattle.xc_data.specs.declared.entry.KeptItem.{KeptItem}
use Rattle.xc_data.specs.declared.memory.NoMemory.{NoMemory}
use Rattle.xc_data.specs.declared.object.Num.{Num}
use Rattle.xc_data.specs.declared.private.Private.{Private}
use Rattle.xc_data.specs.declared.undo.Undo.{Undo}
use Rattle.xc_file.specs.Checks.{IsNewIn, IsOpenIn}
use Rattle.xc_host.specs.Contents.{Contents}
use Rattle.xc_host.specs.Kept.{KeepsData, with_kept}
use Rattle.xc_host.specs.Model.{HostModel}
use Rattle.xc_host.specs.Pairs.{has_pair}
use Rattle.xc_host.specs.Pipes.{has_pipe}
use Rattle.xc_host.specs.Uses.{CallsOf, StopsFor, Uses}
use Rattle.xc_pipe.specs.Reading.{IsPipeIn}
use Rattle.xc_calls.specs.Taking.{HasTaken}
use Rattle.xc_socket.specs.Checks.{IsPairIn}
use Rattle.xc_script.specs.declared.ask.Ask.TheVariants as ask
use Rattle.xc_txmem.specs.Overlay.{AreWithin, overlaid}
use Rattle.xc_locks.specs.Held.{HasRoomFor}
use Rattle.xc_world.specs.Act.Names.{next_num}
use Rattle.xc_world.specs.After.{IsMeAfter}
use Rattle.xc_world.specs.Checks.{IsChecked, refusal_of}
use Rattle.xc_world.specs.Late.{kept_call}
use Rattle.xc_world.specs.Run.{taken_by}
use Rattle.xc_world.specs.RecordOf.{AreRecordsOf, left_by}
use Rattle.xc_model.specs.declared.phase.Phase.TheVariants.{Running}
use Rattle.xc_model.specs.PlainSteps.{StepsAsPlainIn, LeavesAsPlainIn, IsReplyInTime, Parts, StopsAt, tx_parts, stored_by}
use Rattle.xc_model.specs.Moment.{TxView}
use Rattle.xc_model.specs.WordCalls.{IsWordStep}
use Rattle.xc_station.specs.declared.tx.Tx.{Tx}
use Rattle.xc_station.specs.Jobs.{tx_view}
use Rattle.xc_station.specs.Lent.{IsBacked}

-- ---- room
-- for one call and its reply
pub record HasNoteRoom (tx : Tx) : Type 0 where
  pub calls : 1 ≤ tx.calls.spare
  pub replies : 1 ≤ tx.replies.spare

-- and for its claims
pub record HasClaimRoom (tx : Tx) (claims : List Claim) : Type 0 where
  pub notes : HasNoteRoom tx
  pub held : HasRoomFor tx.held claims

-- ---- a transaction that may do its next call on so many words
pub record MayGo (words : ℕ) (tx : TxView) : Type 0 where
  pub running : tx.phase ≡ Running
  pub within : AreWithin words tx.writes
  pub stored : tx.me.stored ≤ 16384
  pub sided : All IsSided tx.me.places
  pub none : tx.undo.ended ≡ []

-- and what the contents of a host have for it: each open file is there, within its limit, and no file has the number of
-- the next object that it makes
pub record AreReadyFor (tx : TxView) (contents : Contents) : Type 0 where
  pub files : (h : ℕ) → IsOpenIn contents (place_of tx.me.places h)
  pub new : IsNewIn contents tx.me tx.number

-- ---- what a call needs of pipes and pairs
-- of the host: the pipe or the pair that it takes from is there
abbrev pub IsSourceIn : Contents → Private → Call → Type 0
IsSourceIn c me (call.XReadPipe h n) = IsPipeIn c (place_of me.places h)
IsSourceIn c me (call.XRecvmsg h) = IsPairIn c (place_of me.places h)
-- no other call takes, nor one yet to come
IsSourceIn c me _ = Unit {0}

-- of the host and of what is kept in front of it: of the number that it gives to a new pipe or pair there is none, and nothing is kept
abbrev pub IsFreeFor : Contents → List KeptItem → Num → Call → Type 0
IsFreeFor c kept num call.XPipe = (has_pipe c num ≡ false) × (kept_bytes num kept ≡ [])
IsFreeFor c kept num call.XPair = (has_pair c num ≡ false) × (keeps_pair num kept ≡ false)
-- no other call makes one, nor one yet to come
IsFreeFor c kept num _ = Unit {0}

-- both, at these handles of a transaction; what it takes from is there where no check refuses it
pub record IsLentFor (me : Private) (number : ℕ) (call : Call) (c : Contents) (kept : List KeptItem) : Type 0 where
  pub source : refusal_of call me ≡ None → IsSourceIn c me call
  pub free : IsFreeFor c kept (next_num me number) call

-- of the transaction: the pair that it is on is open at one of its two sides
abbrev pub IsSidedFor : Private → Call → Type 0
IsSidedFor me (call.XRecvmsg h) = IsSided (place_of me.places h)
IsSidedFor me (call.XSendmsg h bytes slot) = IsSided (place_of me.places h)
-- no other call is on a side, nor one yet to come
IsSidedFor me _ = Unit {0}

-- a call that takes, and for which memory ran out: it called the host for no more than the call, met no fault, and left the
-- private state
pub record StopsTaking {H : Type 0} (model : HostModel H) (call : Call) (host : Step H) (state : Step Private) : Type 0 where
  pub uses : Uses model host (StopsFor call)
  pub faults : model.fault_count host.new ≡ model.fault_count host.old
  pub me : state.new ≡ state.old

-- ---- a call
-- what it works on: a host, what is kept in front of it, the words, and a transaction at them
pub record Acting (H : Type 0) : Type 0 where
  pub host : H
  pub kept : List KeptItem
  pub words : List ℕ
  pub tx : TxView

-- a transaction as a call sees it, which opens and closes no block
abbrev pub in_no_block : TxView → TxView
in_no_block tx = record tx { saved = None }

-- the same of the code's transaction
abbrev pub acting : {H : Type 0} → H → List KeptItem → List ℕ → Tx → Acting H
acting host kept words tx = record { host = host; kept = kept; words = words; tx = in_no_block (tx_view tx) }

-- the transaction with these parts, after a call that got this reply: its late call is kept where that is late, and what it took
-- is noted
abbrev pub with_parts : TxView → Call → Reply → Parts → TxView
with_parts tx call reply parts =
    record tx {
      me = parts.me;
      writes = parts.stores;
      undo = parts.undo;
      taken = tx.taken ++ taken_by call tx.me reply;
      late = tx.late ++ kept_call call tx.me reply;
    }

-- a transaction with these records after its own
abbrev pub leaving : TxView → List Undo → TxView
leaving tx left = record tx { undo = record tx.undo { pending = tx.undo.pending ++ left } }

-- what the host tells, with what is kept in front of it
abbrev pub told_of : {H : Type 0} → HostModel H → Acting H → Contents
told_of model a = with_kept (model.contents a.host) a.kept

-- the same before and after
abbrev pub told_between : {H : Type 0} → HostModel H → Acting H → Acting H → Step Contents
told_between model old new = record { old = told_of model old; new = told_of model new }

module _ {H : Type 0} (model : HostModel H) (call : Call) (old new : Acting H) where
  -- the call was done with this reply, as a row of calls says it: whether a check refused it, its private state, its stores, its
  -- records, its part on words, its calls of the host, its fault, whether it is kept for the commit, and over a host that tells
  -- the plain machine's step
  pub record HasDoneAsPlain (reply : Reply) : Type 0 where
    pub tx : new.tx ≡ with_parts old.tx call reply (tx_parts new.tx)
    pub checked : IsChecked (refusal_of call old.tx.me) call reply
    pub after : IsMeAfter old.tx.number call reply old.tx.me new.tx.me
    pub stores : new.tx.writes ≡ old.tx.writes ++ stored_by (length old.words) call
    pub stored : new.tx.me.stored ≤ 16384
    pub made : List Undo
    pub one : length made ≤ 1
    pub kinds : AreRecordsOf (left_by call reply) made
    pub undo : new.tx.undo ≡ record old.tx.undo { pending = old.tx.undo.pending ++ made }
    pub in_time : IsReplyInTime old.tx.me old.tx.number call reply
    pub uses : Uses model (record { old = old.host; new = new.host }) (CallsOf (refusal_of call old.tx.me) call reply)
    pub cause : CountsFault (is_fault_reply reply) (model.fault_count old.host) (model.fault_count new.host)
    -- what becomes of kept data, over every host
    pub lent : HasTaken call old.tx.me (record { old = old.kept; new = new.kept }) (Ok reply)
    pub spoken : IsWordStep (overlaid old.words old.tx.writes) (overlaid old.words new.tx.writes) call reply
    -- what it took is of a pipe or a pair of the host's, and none of them is gone
    pub backed : IsTrue model.tells → All (IsBacked (model.contents old.host)) (taken_by call old.tx.me reply)
    pub keeps : IsTrue model.tells → KeepsData (model.contents old.host) (model.contents new.host)
    pub does : IsTrue model.tells
        → StepsAsPlainIn old.words (told_between model old new) (record { old = tx_parts old.tx; new = tx_parts new.tx }) call reply

  -- memory ran out: the transaction is as before but for what the call left, at most one record, and the host was called for
  -- no more than the call. Over a host that tells nothing was left and nothing is changed, or with some answer the call did its
  -- part
  pub record LeavesOff : Type 0 where
    pub left : List Undo
    pub one : length left ≤ 1
    pub tx : new.tx ≡ leaving old.tx left
    pub uses : Uses model (record { old = old.host; new = new.host }) (StopsAt (ask.Call call))
    pub faults : model.fault_count new.host ≡ model.fault_count old.host
    -- what becomes of kept data, over every host
    pub lent : HasTaken call old.tx.me (record { old = old.kept; new = new.kept }) (Err (record {}))
    pub keeps : IsTrue model.tells → KeepsData (model.contents old.host) (model.contents new.host)
    pub contents : IsTrue model.tells
        → ((left ≡ []) × (told_of model new ≡ told_of model old))
        ⊎ ((answer : Answer)
        × LeavesAsPlainIn old.words (told_between model old new) (tx_parts old.tx) (record { call = call; answer = answer }) left)

  -- by what the call answers
  abbrev pub HasActedAsPlain : Result Reply NoMemory → Type 0
  HasActedAsPlain (Ok reply) = HasDoneAsPlain reply
  HasActedAsPlain (Err e) = LeavesOff
