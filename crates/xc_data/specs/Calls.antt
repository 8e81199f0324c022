-- What is asked of a call, of a late call and of a reply.
use Rattle.std.specs.Prelude.{ℕ, Bool, true, false, List, [], ◌∷◌, Option, length, nat_le}
use Rattle.std.specs.declared.option.Option.TheVariants.{None, Some}
use Rattle.xc_data.specs.declared.object.Object.TheVariants as object
use Rattle.xc_data.specs.declared.call.Call.{Call}
use Rattle.xc_data.specs.declared.call.Call.TheVariants as call
use Rattle.xc_data.specs.declared.call.HandleUse.{HandleUse}
use Rattle.xc_data.specs.declared.call.HandleUse.TheVariants as handles
use Rattle.xc_data.specs.declared.call.Reply.{Reply}
use Rattle.xc_data.specs.declared.call.Reply.TheVariants as reply
use Rattle.xc_data.specs.declared.call.LateCall.{LateCall}
use Rattle.xc_data.specs.declared.call.LateCall.TheVariants.{Unlink, Sync, WritePipe, Shutdown, Send, Thread}
use Rattle.xc_data.specs.declared.private.Place.{Place}
use Rattle.xc_data.specs.declared.private.Place.TheVariants as place
use Rattle.xc_data.specs.declared.private.Private.{Private}
use Rattle.xc_data.specs.Private.{place_of}

-- ---- the late call on a handle's object, none where it is of another kind
-- a sync of the file at a handle, if one is there
abbrev pub sync_of : Place → List LateCall
sync_of (place.File num at) = Sync num ∷ []
sync_of place.Vacant = []
sync_of (place.Pipe num) = []
sync_of (place.Pair num side) = []

-- a write to the pipe at a handle, if one is there
abbrev pub write_pipe_of : Place → List ℕ → List LateCall
write_pipe_of (place.Pipe num) bytes = WritePipe num bytes ∷ []
write_pipe_of place.Vacant bytes = []
write_pipe_of (place.File num at) bytes = []
write_pipe_of (place.Pair num side) bytes = []

-- a shutdown of the pipe or the pair at a handle, if one is there
abbrev pub shutdown_of : Place → List LateCall
shutdown_of (place.Pipe num) = Shutdown (object.Pipe num) ∷ []
shutdown_of (place.Pair num side) = Shutdown (object.Pair num) ∷ []
shutdown_of place.Vacant = []
shutdown_of (place.File num at) = []

-- a message from the side of a pair at a handle, if one is there
abbrev pub send_of : Place → List ℕ → List LateCall
send_of (place.Pair num side) bytes = Send num side bytes ∷ []
send_of place.Vacant bytes = []
send_of (place.File num at) bytes = []
send_of (place.Pipe num) bytes = []

-- ---- what a call is, in which most calls are alike
-- what a call changes at the host at once
pub data CallChange : Type 0 where
  Unchanging : CallChange
  Overwriting : ℕ → List ℕ → CallChange
  Appending : ℕ → List ℕ → CallChange
  Creating : List ℕ → CallChange
  Renaming : List ℕ → List ℕ → CallChange
  MakingPipe : CallChange
  MakingPair : CallChange

-- what a call takes out of a pipe or a pair: nothing, of the pipe at a handle so many bytes, or a message from the pair at one
pub data CallTaking : Type 0 where
  TakingNothing : CallTaking
  TakingBytes : ℕ → ℕ → CallTaking
  TakingMessage : ℕ → CallTaking

-- the traits of a call
pub record Traits : Type 0 where
  -- the bytes that it carries, where it is one that carries some
  pub bytes : Option (List ℕ)
  -- the word that it is on, where it is on one
  pub word : Option ℕ
  -- whether it asks something of the host at once
  pub is_asking : Bool
  -- whether it is on pipes or on pairs
  pub is_on_data : Bool
  -- what it may change of its job's handles, of what is at the host, and of what is in pipes and pairs
  pub handle : HandleUse
  pub change : CallChange
  pub taking : CallTaking
  -- whether it is kept for the commit, its slot, the late call that it leaves, and the block of the job that this would start
  pub is_kept : Bool
  pub slot : Option (List ℕ)
  pub late : Private → List LateCall
  pub block : Option (List ℕ)

-- those of a call that does nothing
abbrev pub plain : Traits
plain =
    record {
      bytes = None;
      word = None;
      is_asking = false;
      is_on_data = false;
      handle = handles.Unchanged;
      change = Unchanging;
      taking = TakingNothing;
      is_kept = false;
      slot = None;
      late = λ me. [];
      block = None;
    }

-- those of one on a word
abbrev pub on_word : ℕ → Traits
on_word at = record plain { word = Some at }

-- those of one that asks the host and changes nothing there
abbrev pub asking : Traits
asking = record plain { is_asking = true }

-- those of one on pipes or pairs
abbrev pub on_data : Traits
on_data = record plain { is_on_data = true }

-- those of a write to the file at a handle
abbrev pub writing : ℕ → List ℕ → CallChange → Traits
writing h written made =
    record plain { bytes = Some written; is_asking = nat_le 1 (length written); handle = handles.At h; change = made }

-- those of one that is kept, with this slot and this late call
abbrev pub kept : Option (List ℕ) → (Private → List LateCall) → Traits
kept named left = record plain { is_kept = true; slot = named; late = left }

-- those of one that is kept and is on pipes or pairs
abbrev pub kept_on_data : Option (List ℕ) → (Private → List LateCall) → Traits
kept_on_data named left = record (kept named left) { is_on_data = true }

-- the traits of each call
abbrev pub traits : Call → Traits
traits (call.Load at) = on_word at
traits (call.Store at value) = on_word at
traits (call.XOpen name) = record asking { handle = handles.New }
traits (call.XCreate name) = record asking { handle = handles.New; change = Creating name }
traits (call.XRead h n) = record plain { is_asking = nat_le 1 n; handle = handles.At h }
traits (call.XWriteOvr h bytes) = writing h bytes (Overwriting h bytes)
traits (call.XWriteSeq h bytes) = writing h bytes (Appending h bytes)
traits (call.XSeek h to) = record plain { handle = handles.At h }
traits (call.XLen h) = asking
traits (call.XRename from to) = record asking { change = Renaming from to }
traits (call.XClose h) = record plain { handle = handles.At h }
traits call.XPipe = record on_data { is_asking = true; handle = handles.New; change = MakingPipe }
traits (call.XReadPipe h n) = record on_data { is_asking = nat_le 1 n; taking = TakingBytes h n }
traits call.XPair = record on_data { is_asking = true; handle = handles.NewPair; change = MakingPair }
traits (call.XRecvmsg h) = record on_data { is_asking = true; taking = TakingMessage h }
traits (call.XUnlink name slot) = kept slot (λ me. Unlink name ∷ [])
traits (call.XSync h slot) = kept slot (λ me. sync_of (place_of me.places h))
traits (call.XWritePipe h sent slot) = record (kept_on_data slot (λ me. write_pipe_of (place_of me.places h) sent)) { bytes = Some sent }
traits (call.XShutdown h slot) = kept_on_data slot (λ me. shutdown_of (place_of me.places h))
traits (call.XSendmsg h sent slot) = record (kept_on_data slot (λ me. send_of (place_of me.places h) sent)) { bytes = Some sent }
traits (call.XThreadCreate body slot) = record (kept slot (λ me. Thread body ∷ [])) { block = Some body }
traits call.Save = plain
traits call.Keep = plain
traits call.Back = plain

-- ---- read off them
-- bytes, none where none are carried
abbrev pub carried : Option (List ℕ) → List ℕ
carried None = []
carried (Some bytes) = bytes

-- the bytes that a call carries
abbrev pub bytes_of : Call → List ℕ
bytes_of call = carried (traits call).bytes

-- whether a call is kept for the commit: it touches no host before its transaction has committed
abbrev pub is_kept : Call → Bool
is_kept call = (traits call).is_kept

-- the slot that takes how a call ends, where it names one
abbrev pub slot_of : Call → Option (List ℕ)
slot_of call = (traits call).slot

-- the late call of a call, its object fixed by the handle as it is now
abbrev pub late_call : Call → Private → List LateCall
late_call call me = (traits call).late me

-- the block of the job that a call would start, where it would start one
abbrev pub thread_asked : Call → Option (List ℕ)
thread_asked call = (traits call).block

-- ---- late calls and replies
-- the block of the job that a late call would start, where it would start one
abbrev pub thread_in : LateCall → Option (List ℕ)
thread_in (Thread block) = Some block
thread_in (Unlink name) = None
thread_in (Sync num) = None
thread_in (WritePipe num bytes) = None
thread_in (Shutdown object) = None
thread_in (Send num side bytes) = None

-- the reply of a call that is kept for the commit
abbrev pub is_late : Reply → Bool
is_late reply.Late = true
is_late (reply.Number n) = false
is_late (reply.Got bytes) = false
is_late (reply.Made h) = false
is_late (reply.MadePair h g) = false
is_late reply.Done = false
is_late reply.End = false
is_late reply.Empty = false
is_late reply.NoName = false
is_late reply.Exists = false
is_late reply.BadHandle = false
is_late reply.PastEnd = false
is_late reply.TooBig = false
is_late reply.TooMuch = false
is_late reply.BadWord = false
is_late (reply.Fault n) = false
is_late (reply.Undone n) = false
