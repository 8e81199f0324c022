-- What stands within the ranges of its type.
use Rattle.std.specs.Prelude.{◌≡◌, ℕ, ◌^◌, ◌<◌, ◌≤◌, length, true, List, [], ◌∷◌, Option}
use Rattle.std.specs.declared.option.Option.TheVariants.{None, Some}
use Rattle.xc_data.specs.declared.claim.Claim.{Claim}
use Rattle.xc_data.specs.declared.object.Num.{Num}
use Rattle.xc_data.specs.declared.object.Object.{Object}
use Rattle.xc_data.specs.declared.object.Object.TheVariants as object
use Rattle.xc_data.specs.declared.call.Call.{Call}
use Rattle.xc_data.specs.declared.call.Call.TheVariants as call
use Rattle.xc_data.specs.declared.call.Reply.{Reply}
use Rattle.xc_data.specs.declared.call.Reply.TheVariants as reply
use Rattle.xc_data.specs.declared.call.LateEnd.{LateEnd}
use Rattle.xc_data.specs.declared.call.LateEnd.TheVariants as late_end
use Rattle.xc_data.specs.declared.undo.UndoEnd.{UndoEnd}
use Rattle.xc_data.specs.declared.undo.UndoEnd.TheVariants as undo_end
use Rattle.xc_data.specs.declared.entry.KeptItem.{KeptItem}
use Rattle.xc_data.specs.declared.entry.KeptItem.TheVariants as item
use Rattle.xc_lines.specs.declared.shown.EffectShown.{EffectShown}
use Rattle.xc_lines.specs.declared.shown.EffectShown.TheVariants as standing
use Rattle.xc_data.specs.declared.entry.Cause.{Cause}
use Rattle.xc_data.specs.declared.entry.Cause.TheVariants as cause
use Rattle.xc_data.specs.Spelling.{is_name, is_ident}
use Rattle.xc_lines.specs.declared.heads.Head.{Head}

-- ---- parts
-- a name as it may be spelled
abbrev pub IsName : List ℕ → Type 0
IsName name = is_name name ≡ true

-- the name of a slot, a block or a job as it may be spelled
abbrev pub IsIdent : List ℕ → Type 0
IsIdent ident = is_ident ident ≡ true

-- bytes
abbrev pub AreBytes : List ℕ → Type 0
AreBytes [] = Unit {0}
AreBytes (b ∷ bs) = (b < 256) × AreBytes bs

-- a slot, where one is named
abbrev pub IsSlot : Option (List ℕ) → Type 0
IsSlot None = Unit {0}
IsSlot (Some slot) = IsIdent slot

-- the number of a file, pipe or pair
pub record IsNumInRange (num : Num) : Type 0 where
  pub tx : num.tx < 2 ^ 32
  pub k : num.k < 2 ^ 16

-- an object
abbrev pub IsObjectInRange : Object → Type 0
IsObjectInRange (object.Word at) = at < 2 ^ 32
IsObjectInRange (object.Name name) = IsName name
IsObjectInRange (object.File num) = IsNumInRange num
IsObjectInRange (object.Pipe num) = IsNumInRange num
IsObjectInRange (object.Pair num) = IsNumInRange num
IsObjectInRange object.Jobs = Unit {0}

-- ---- lines
-- a cause
abbrev pub IsCauseInRange : Cause → Type 0
IsCauseInRange cause.Asked = Unit {0}
IsCauseInRange (cause.Conflict object holder at) = IsObjectInRange object × (holder < 2 ^ 32) × (at < 2 ^ 32)
IsCauseInRange (cause.Revoked object by at) = IsObjectInRange object × (by < 2 ^ 32) × (at < 2 ^ 32)
IsCauseInRange cause.NoMemory = Unit {0}
IsCauseInRange (cause.Stuck failed) = failed < 2 ^ 32

-- a cause, where there is one
abbrev pub IsHeadCauseInRange : Option Cause → Type 0
IsHeadCauseInRange None = Unit {0}
IsHeadCauseInRange (Some cause) = IsCauseInRange cause

-- the first line of an entry
pub record IsHeadInRange (head : Head) : Type 0 where
  pub tx : head.tx < 2 ^ 32
  pub job : head.job < 2 ^ 32
  pub rank : head.rank < 2 ^ 32
  pub began : head.began < 2 ^ 32
  pub cause : IsHeadCauseInRange head.cause

-- a call
abbrev pub IsCallInRange : Call → Type 0
IsCallInRange (call.Load at) = at < 2 ^ 64
IsCallInRange (call.Store at value) = (at < 2 ^ 64) × (value < 2 ^ 64)
IsCallInRange (call.XOpen name) = IsName name
IsCallInRange (call.XCreate name) = IsName name
IsCallInRange (call.XRead h n) = (h < 2 ^ 16) × (n < 2 ^ 64)
IsCallInRange (call.XWriteOvr h bytes) = (h < 2 ^ 16) × AreBytes bytes
IsCallInRange (call.XWriteSeq h bytes) = (h < 2 ^ 16) × AreBytes bytes
IsCallInRange (call.XSeek h to) = (h < 2 ^ 16) × (to < 2 ^ 64)
IsCallInRange (call.XLen h) = h < 2 ^ 16
IsCallInRange (call.XRename from to) = IsName from × IsName to
IsCallInRange (call.XClose h) = h < 2 ^ 16
IsCallInRange call.XPipe = Unit {0}
IsCallInRange (call.XReadPipe h n) = (h < 2 ^ 16) × (n < 2 ^ 64)
IsCallInRange call.XPair = Unit {0}
IsCallInRange (call.XRecvmsg h) = h < 2 ^ 16
IsCallInRange (call.XUnlink name slot) = IsName name × IsSlot slot
IsCallInRange (call.XSync h slot) = (h < 2 ^ 16) × IsSlot slot
IsCallInRange (call.XWritePipe h bytes slot) = (h < 2 ^ 16) × AreBytes bytes × IsSlot slot
IsCallInRange (call.XShutdown h slot) = (h < 2 ^ 16) × IsSlot slot
IsCallInRange (call.XSendmsg h bytes slot) = (h < 2 ^ 16) × AreBytes bytes × IsSlot slot
IsCallInRange (call.XThreadCreate body slot) = IsIdent body × IsSlot slot
IsCallInRange call.Save = Unit {0}
IsCallInRange call.Keep = Unit {0}
IsCallInRange call.Back = Unit {0}

-- the end of a late call
abbrev pub IsLateEndInRange : LateEnd → Type 0
IsLateEndInRange (late_end.Full n) = n < 2 ^ 32
IsLateEndInRange (late_end.Fault n) = n < 2 ^ 32
IsLateEndInRange (late_end.NoMemory n) = n < 2 ^ 32
IsLateEndInRange late_end.Done = Unit {0}
IsLateEndInRange late_end.Shut = Unit {0}
IsLateEndInRange late_end.NoName = Unit {0}
IsLateEndInRange late_end.NoScript = Unit {0}

-- the end of a compensation
abbrev pub IsUndoEndInRange : UndoEnd → Type 0
IsUndoEndInRange (undo_end.Undone faults) = faults < 2 ^ 32
IsUndoEndInRange (undo_end.Failed done faults) = (done < 2 ^ 32) × (faults < 2 ^ 32)
IsUndoEndInRange (undo_end.Blocked by) = by < 2 ^ 32

-- an effect that stands
abbrev pub IsStandingInRange : EffectShown → Type 0
IsStandingInRange (standing.Bytes file at bytes) = IsNumInRange file × (at < 2 ^ 64) × AreBytes bytes
IsStandingInRange (standing.Tail file from bytes) = IsNumInRange file × (from < 2 ^ 32) × AreBytes bytes
IsStandingInRange (standing.Made name num) = IsName name × IsNumInRange num
IsStandingInRange (standing.Moved from to) = IsName from × IsName to
IsStandingInRange (standing.Pipe num) = IsNumInRange num
IsStandingInRange (standing.Pair num) = IsNumInRange num

-- kept data
abbrev pub IsItemInRange : KeptItem → Type 0
IsItemInRange (item.Bytes pipe bytes) = IsNumInRange pipe × AreBytes bytes
IsItemInRange (item.Message pair side bytes) = IsNumInRange pair × (side < 2 ^ 8) × AreBytes bytes

-- a reply
abbrev pub IsReplyInRange : Reply → Type 0
IsReplyInRange (reply.Number n) = n < 2 ^ 64
IsReplyInRange (reply.Got bytes) = AreBytes bytes
IsReplyInRange (reply.Made h) = h < 2 ^ 16
IsReplyInRange (reply.MadePair h g) = (h < 2 ^ 16) × (g < 2 ^ 16)
IsReplyInRange (reply.Fault n) = n < 2 ^ 32
IsReplyInRange (reply.Undone faults) = faults < 2 ^ 32
IsReplyInRange reply.Done = Unit {0}
IsReplyInRange reply.End = Unit {0}
IsReplyInRange reply.Empty = Unit {0}
IsReplyInRange reply.NoName = Unit {0}
IsReplyInRange reply.Exists = Unit {0}
IsReplyInRange reply.BadHandle = Unit {0}
IsReplyInRange reply.PastEnd = Unit {0}
IsReplyInRange reply.TooBig = Unit {0}
IsReplyInRange reply.TooMuch = Unit {0}
IsReplyInRange reply.BadWord = Unit {0}
IsReplyInRange reply.Late = Unit {0}

-- claims on objects
abbrev pub AreClaimsInRange : List Claim → Type 0
AreClaimsInRange [] = Unit {0}
AreClaimsInRange (claim ∷ claims) = IsObjectInRange claim.object × AreClaimsInRange claims

-- at least one, and not more than are read
abbrev pub IsHeldInRange : List Claim → Type 0
IsHeldInRange [] = ⊥
IsHeldInRange (claim ∷ claims) = IsObjectInRange claim.object × AreClaimsInRange claims × (length claims ≤ 2 ^ 26)
