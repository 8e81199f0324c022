-- A transaction run whole on the plain machine: its body, then its late calls.
use Rattle.std.specs.Prelude.{ℕ, ◌==◌, ◌&&◌, Bool, true, List, [], ◌∷◌, ◌++◌, length, Option, if◌then◌else◌}
use Rattle.std.specs.declared.option.Option.TheVariants.{None, Some}
use Rattle.std.specs.List.{fold}
use Rattle.xc_data.specs.declared.call.Call.{Call}
use Rattle.xc_data.specs.declared.call.Call.TheVariants as call
use Rattle.xc_data.specs.declared.call.Answer.TheVariants as answer
use Rattle.xc_data.specs.declared.call.Reply.{Reply}
use Rattle.xc_data.specs.declared.call.Reply.TheVariants.{Got}
use Rattle.xc_data.specs.declared.call.LateCall.{LateCall}
use Rattle.xc_data.specs.declared.call.LateEnd.{LateEnd}
use Rattle.xc_data.specs.declared.call.LateAnswer.{LateAnswer}
use Rattle.xc_data.specs.declared.call.LateAnswer.TheVariants as late_answer
use Rattle.xc_data.specs.declared.undo.Undo.{Undo}
use Rattle.xc_data.specs.declared.object.Object.{Object}
use Rattle.xc_data.specs.declared.object.Object.TheVariants as object
use Rattle.xc_data.specs.declared.private.Place.{Place}
use Rattle.xc_data.specs.declared.private.Place.TheVariants.{Pipe, Pair}
use Rattle.xc_data.specs.declared.private.Private.{Private}
use Rattle.xc_data.specs.Private.{place_of}
use Rattle.xc_data.specs.Calls.{CallTaking, TakingBytes, TakingMessage, TakingNothing, traits}
use Rattle.xc_world.specs.World.{World, pipe_of, pair_of, with_pipe, with_pair, waiting, with_waiting}
use Rattle.xc_world.specs.Act.{act}
use Rattle.xc_world.specs.Act.Step.{Stepped}
use Rattle.xc_world.specs.Late.{kept_call, late}
use Rattle.xc_world.specs.Fits.{fits, late_fits, answer_of, late_answer_of}
use Rattle.xc_world.specs.Trail.{recorded}
use Rattle.xc_data.specs.Claims.{held_of}
use Rattle.xc_world.specs.Modes.{claims_of}
use Rattle.xc_data.specs.declared.claim.Claim.{Claim}
use Rattle.xc_data.specs.declared.call.CallWithAnswer.{CallWithAnswer}
use Rattle.xc_data.specs.declared.entry.KeptItem.{KeptItem}
use Rattle.xc_data.specs.declared.entry.KeptItem.TheVariants.{Bytes, Message}

-- ---- what a call takes out of a pipe or a pair
abbrev pub bytes_taken : Place → List ℕ → List KeptItem
bytes_taken (Pipe num) bytes = if length bytes == 0 then [] else Bytes num bytes ∷ []
bytes_taken _ bytes = []

-- the message that left the pair at a handle
abbrev pub message_taken : Place → List ℕ → List KeptItem
message_taken (Pair num side) bytes = Message num side bytes ∷ []
message_taken _ bytes = []

-- what is taken where the reply is this one
abbrev pub taken_as : CallTaking → Private → Reply → List KeptItem
taken_as TakingNothing me r = []
taken_as (TakingBytes h n) me (Got bytes) = bytes_taken (place_of me.places h) bytes
taken_as (TakingMessage h) me (Got bytes) = message_taken (place_of me.places h) bytes
-- any other reply brings no bytes, also one yet to come
taken_as (TakingBytes h n) me _ = []
taken_as (TakingMessage h) me _ = []

-- what a call with its reply takes: a reply without bytes takes nothing
abbrev pub taken_by : Call → Private → Reply → List KeptItem
taken_by call me r = taken_as (traits call).taking me r

-- ---- the same given back, in front of what is there now
-- the object that it was taken from
abbrev pub item_object : KeptItem → Object
item_object (Bytes num bytes) = object.Pipe num
item_object (Message num side bytes) = object.Pair num

-- an item stands in front of what is there
abbrev pub gives : World → KeptItem → World
gives w (Bytes num bytes) = with_pipe w num (record (pipe_of w num) { held = bytes ++ (pipe_of w num).held })
gives w (Message num side bytes) = with_pair w num (with_waiting (pair_of w num) side (bytes ∷ waiting (pair_of w num) side))

-- the newest (the last) first
abbrev pub given_back : World → List KeptItem → World
given_back w [] = w
given_back w (t ∷ ts) = gives (given_back w ts) t

-- ---- the body
-- where a body stands, and what it gave on the way
pub record BodyResult : Type 0 where
  pub world : World
  pub me : Private
  pub replies : List Reply
  pub late : List LateCall
  pub trail : List Undo
  pub taken : List KeptItem
  pub touched : List Claim

-- a body that has made no call yet
abbrev pub begins : World → Private → BodyResult
begins w me = record { world = w; me = me; replies = []; late = []; trail = []; taken = []; touched = [] }

-- one call more, which gave this
abbrev pub stepped : ℕ → BodyResult → Call → Stepped → BodyResult
stepped tx ran call s =
    record {
      world = s.world;
      me = s.me;
      replies = ran.replies ++ s.reply ∷ [];
      late = ran.late ++ kept_call call ran.me s.reply;
      trail = ran.trail ++ recorded ran.world ran.me tx call s.reply;
      taken = ran.taken ++ taken_by call ran.me s.reply;
      touched = ran.touched ++ claims_of call ran.me (length ran.world.words);
    }

-- a body with one call more
abbrev pub step : ℕ → BodyResult → CallWithAnswer → BodyResult
step tx ran asked = stepped tx ran asked.call (act ran.world ran.me tx asked.call asked.answer)

-- calls one after another, none of which opens or closes a block
abbrev pub after_calls : ℕ → BodyResult → List CallWithAnswer → BodyResult
after_calls tx ran asked = fold (step tx) ran asked

-- such calls from a begin
abbrev pub plain_body : World → Private → ℕ → List CallWithAnswer → BodyResult
plain_body w me tx asked = after_calls tx (begins w me) asked

-- each answer fits its call where it is made
abbrev pub plain_fits : World → Private → ℕ → List CallWithAnswer → Bool
plain_fits w me tx [] = true
plain_fits w me tx (c ∷ asked) =
    let s = act w me tx c.call c.answer in
    fits w me tx c.call c.answer && plain_fits s.world s.me tx asked

-- ---- inner blocks
-- where a body stands, and in an open block what it was at the block's save
pub record BlockState : Type 0 where
  pub now : BodyResult
  pub saved : Option BodyResult

-- it is what it was at the save, with all replies and claims; what it made and stored counts on
abbrev pub gone_back : BodyResult → BodyResult → BodyResult
gone_back saved now =
    record {
      world = saved.world;
      me = record now.me { places = saved.me.places };
      replies = now.replies;
      late = saved.late;
      trail = saved.trail;
      taken = saved.taken;
      touched = now.touched;
    }

-- the same where a block is open
abbrev pub back_from : Option BodyResult → BodyResult → BodyResult
back_from None now = now
back_from (Some saved) now = gone_back saved now

-- a save keeps a copy, a keep drops it, and a back goes back to it and drops it
abbrev pub marked : Call → Option BodyResult → BodyResult → BlockState
marked call.Save saved now = record { now = now; saved = Some now }
marked call.Keep saved now = record { now = now; saved = None }
marked call.Back saved now = record { now = back_from saved now; saved = None }
-- any other call is made in the block that is open, also one yet to come
marked _ saved now = record { now = now; saved = saved }

-- one call more
abbrev pub block_step : ℕ → BlockState → CallWithAnswer → BlockState
block_step tx s asked = marked asked.call s.saved (step tx s.now asked)

-- calls one after another
abbrev pub runs_on : ℕ → BlockState → List CallWithAnswer → BlockState
runs_on tx s asked = fold (block_step tx) s asked

-- a body that has made no call yet, in no block
abbrev pub opens : World → Private → BlockState
opens w me = record { now = begins w me; saved = None }

-- the calls of a body, one after another from its begin
abbrev pub body_state : World → Private → ℕ → List CallWithAnswer → BlockState
body_state w me tx asked = runs_on tx (opens w me) asked

-- and what it gives
abbrev pub body : World → Private → ℕ → List CallWithAnswer → BodyResult
body w me tx asked = (body_state w me tx asked).now

-- each answer fits its call where it is made
abbrev pub fits_on : ℕ → BlockState → List CallWithAnswer → Bool
fits_on tx s [] = true
fits_on tx s (c ∷ asked) = fits s.now.world s.now.me tx c.call c.answer && fits_on tx (block_step tx s c) asked

-- from its begin
abbrev pub body_fits : World → Private → ℕ → List CallWithAnswer → Bool
body_fits w me tx asked = fits_on tx (opens w me) asked

-- the claims that a body holds at its end
abbrev pub held_by : World → Private → ℕ → List CallWithAnswer → List Claim
held_by w me tx asked = held_of (body w me tx asked).touched

-- ---- the late calls, one after another
pub record LateResult : Type 0 where
  pub world : World
  pub ends : List LateEnd

-- the late calls, one after another
abbrev pub lates : World → List (LateCall × LateAnswer) → LateResult
lates w [] = record { world = w; ends = [] }
lates w ((call, answer) ∷ rest) =
    let e = late w call answer in
    let more = lates e.world rest in
    record { world = more.world; ends = e.end ∷ more.ends }

-- each answer fits its late call where it is made
abbrev pub lates_fit : World → List (LateCall × LateAnswer) → Bool
lates_fit w [] = true
lates_fit w ((call, answer) ∷ rest) = late_fits w call answer && lates_fit (late w call answer).world rest

-- ---- the answers that are read off an entry: fine where it has none
abbrev pub asked_of : List Call → List Reply → List CallWithAnswer
asked_of [] replies = []
asked_of (call ∷ calls) [] = record { call = call; answer = answer.Fine } ∷ asked_of calls []
asked_of (call ∷ calls) (reply ∷ replies) = record { call = call; answer = answer_of reply } ∷ asked_of calls replies

-- the late calls, each with the answer that its end tells of
abbrev pub late_asked_of : List LateCall → List LateEnd → List (LateCall × LateAnswer)
late_asked_of [] ends = []
late_asked_of (call ∷ calls) [] = (call, late_answer.Fine) ∷ late_asked_of calls []
late_asked_of (call ∷ calls) (end ∷ ends) = (call, late_answer_of end) ∷ late_asked_of calls ends

-- ---- the whole: a body, then its late calls, each on the object that was fixed when it was made
pub record Run : Type 0 where
  pub body : BodyResult
  pub late : LateResult

-- a body, and then its late calls with the answers that their ends tell of
abbrev pub run : World → Private → ℕ → List CallWithAnswer → List LateEnd → Run
run w me tx asked ends =
    let ran = body w me tx asked in
    record { body = ran; late = lates ran.world (late_asked_of ran.late ends) }

-- each answer fits its call, and each answer of a late call fits that
abbrev pub run_fits : World → Private → ℕ → List CallWithAnswer → List LateEnd → Bool
run_fits w me tx asked ends =
    let ran = body w me tx asked in
    body_fits w me tx asked && lates_fit ran.world (late_asked_of ran.late ends)
