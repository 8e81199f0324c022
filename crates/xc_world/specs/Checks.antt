-- The private checks of a call: what refuses it before anything is touched.
use Rattle.std.specs.Prelude.{◌≡◌, ℕ, ◌+◌, ◌||◌, Bool, true, false, not, is_none, length, count_by, nat_lt}
use Rattle.std.specs.Prelude.{nat_le, Option, if◌then◌else◌}
use Rattle.std.specs.declared.option.Option.TheVariants.{None, Some}
use Rattle.xc_data.specs.declared.call.Call.{Call}
use Rattle.xc_data.specs.declared.call.Call.TheVariants as call
use Rattle.xc_data.specs.declared.call.Reply.{Reply}
use Rattle.xc_data.specs.declared.call.Reply.TheVariants as reply
use Rattle.xc_data.specs.declared.private.Place.{Place}
use Rattle.xc_data.specs.declared.private.Place.TheVariants as place
use Rattle.xc_data.specs.declared.private.Private.{Private}
use Rattle.xc_data.specs.Calls.{bytes_of, traits}
use Rattle.xc_data.specs.Private.{place_of, is_vacant, lowest_vacant}
use Rattle.xc_world.specs.Replies.{may_reply}

-- whether a file stands at a place
abbrev pub is_file : Place → Bool
is_file (place.File num at) = true
is_file _ = false

-- whether a pipe stands at a place
abbrev pub is_pipe : Place → Bool
is_pipe (place.Pipe num) = true
is_pipe _ = false

-- whether a side of a pair stands at a place
abbrev pub is_pair : Place → Bool
is_pair (place.Pair num side) = true
is_pair _ = false

-- the handle isn't open, or is of another kind than the call needs
abbrev pub is_bad_handle : Call → Private → Bool
is_bad_handle (call.XRead h n) me = not (is_file (place_of me.places h))
is_bad_handle (call.XWriteOvr h bytes) me = not (is_file (place_of me.places h))
is_bad_handle (call.XWriteSeq h bytes) me = not (is_file (place_of me.places h))
is_bad_handle (call.XSeek h to) me = not (is_file (place_of me.places h))
is_bad_handle (call.XLen h) me = not (is_file (place_of me.places h))
is_bad_handle (call.XClose h) me = is_vacant (place_of me.places h)
is_bad_handle (call.XReadPipe h n) me = not (is_pipe (place_of me.places h))
is_bad_handle (call.XRecvmsg h) me = not (is_pair (place_of me.places h))
is_bad_handle (call.XSync h slot) me = not (is_file (place_of me.places h))
is_bad_handle (call.XWritePipe h bytes slot) me = not (is_pipe (place_of me.places h))
is_bad_handle (call.XShutdown h slot) me = not (is_pipe (place_of me.places h) || is_pair (place_of me.places h))
is_bad_handle (call.XSendmsg h bytes slot) me = not (is_pair (place_of me.places h))
is_bad_handle (call.Load at) me = false
is_bad_handle (call.Store at value) me = false
is_bad_handle (call.XOpen name) me = false
is_bad_handle (call.XCreate name) me = false
is_bad_handle (call.XRename from to) me = false
is_bad_handle call.XPipe me = false
is_bad_handle call.XPair me = false
is_bad_handle (call.XUnlink name slot) me = false
is_bad_handle (call.XThreadCreate body slot) me = false
is_bad_handle call.Save me = false
is_bad_handle call.Keep me = false
is_bad_handle call.Back me = false

-- bytes or a read of more than 1,024
abbrev pub is_too_big : Call → Bool
is_too_big (call.XRead h n) = nat_lt 1024 n
is_too_big (call.XReadPipe h n) = nat_lt 1024 n
-- of any other call its bytes count, also of one yet to come
is_too_big call = nat_lt 1024 (length (bytes_of call))

-- so many more bytes would pass what a transaction may store
abbrev pub passes_store : Private → ℕ → Bool
passes_store me n = nat_lt 16384 (me.stored + n)

-- sixteen objects are made already
abbrev pub has_made_all : Private → Bool
has_made_all me = nat_le 16 me.made

-- the bytes or a read would pass the store; an object or a handle too many
abbrev pub is_too_much : Call → Private → Bool
is_too_much (call.XRead h n) me = passes_store me n
is_too_much (call.XReadPipe h n) me = passes_store me n
is_too_much (call.XRecvmsg h) me = passes_store me 1024
is_too_much (call.XWriteOvr h bytes) me = passes_store me (length bytes)
is_too_much (call.XWriteSeq h bytes) me = passes_store me (length bytes)
is_too_much (call.XWritePipe h bytes slot) me = passes_store me (length bytes)
is_too_much (call.XSendmsg h bytes slot) me = passes_store me (length bytes)
is_too_much (call.XOpen name) me = is_none (lowest_vacant me.places)
is_too_much (call.XCreate name) me = has_made_all me || is_none (lowest_vacant me.places)
is_too_much call.XPipe me = has_made_all me || is_none (lowest_vacant me.places)
is_too_much call.XPair me = has_made_all me || nat_lt (count_by is_vacant me.places) 2
is_too_much (call.Load at) me = false
is_too_much (call.Store at value) me = false
is_too_much (call.XSeek h to) me = false
is_too_much (call.XLen h) me = false
is_too_much (call.XRename from to) me = false
is_too_much (call.XClose h) me = false
is_too_much (call.XUnlink name slot) me = false
is_too_much (call.XSync h slot) me = false
is_too_much (call.XShutdown h slot) me = false
is_too_much (call.XThreadCreate body slot) me = false
is_too_much call.Save me = false
is_too_much call.Keep me = false
is_too_much call.Back me = false

-- a word is named that isn't one of so many
abbrev pub is_absent : Option ℕ → ℕ → Bool
is_absent None words = false
is_absent (Some at) words = nat_le words at

-- there is no such word
abbrev pub is_bad_word : Call → ℕ → Bool
is_bad_word call words = is_absent (traits call).word words

-- one of the checks refuses the call
abbrev pub is_refused : Call → Private → ℕ → Bool
is_refused call me words = is_bad_handle call me || is_too_big call || is_too_much call me || is_bad_word call words

-- the reply of a call that they refuse: the first of them gives it
abbrev pub refusal : Call → Private → Reply
refusal call me =
    if is_bad_handle call me then reply.BadHandle
    else if is_too_big call then reply.TooBig
    else if is_too_much call me then reply.TooMuch
    else reply.BadWord

-- the reply of the first check that refuses a call, but for that of words
abbrev pub refusal_of : Call → Private → Option Reply
refusal_of call me =
    if is_bad_handle call me then Some reply.BadHandle
    else if is_too_big call then Some reply.TooBig
    else if is_too_much call me then Some reply.TooMuch
    else None

-- replies that a call never gives which these checks let pass: their own, and that of a way back. But an append is too big also
-- where the file has no room for it, a seek where it would go too far, and a back tells of its way
abbrev pub is_check_reply : Call → Reply → Bool
is_check_reply (call.XWriteSeq h bytes) reply.TooBig = false
is_check_reply (call.XSeek h to) reply.TooBig = false
is_check_reply call.Back (reply.Undone faults) = false
is_check_reply call (reply.Undone faults) = true
is_check_reply call reply.BadHandle = true
is_check_reply call reply.TooBig = true
is_check_reply call reply.TooMuch = true
-- any other reply is none of them, also one yet to come
is_check_reply call _ = false

-- refused exactly where one of them refuses the call, with its reply; else the reply is one that may come of such a call
abbrev pub IsChecked : Option Reply → Call → Reply → Type 0
IsChecked None call r = may_reply call r ≡ true
IsChecked (Some refused) call r = r ≡ refused
