-- Calls that are run again, against the replies and the ends that are recorded of them.
use Rattle.std.specs.Prelude.{◌≡◌, ℕ, List, [], ◌∷◌, IsTrue}
use Rattle.xc_data.specs.declared.call.Call.{Call}
use Rattle.xc_data.specs.declared.call.CallWithAnswer.{CallWithAnswer}
use Rattle.xc_data.specs.declared.call.Reply.{Reply}
use Rattle.xc_data.specs.declared.call.LateCall.{LateCall}
use Rattle.xc_data.specs.declared.call.LateEnd.{LateEnd}
use Rattle.xc_data.specs.declared.private.Private.{Private}
use Rattle.xc_world.specs.World.{World}
use Rattle.xc_world.specs.Act.{act}
use Rattle.xc_world.specs.Fits.{fits, late_fits, answer_of, late_answer_of}
use Rattle.xc_world.specs.Late.{late}
use Rattle.xc_world.specs.Run.{BlockState, block_step, opens}

-- the answer that its reply tells fits the call, which replies so
pub record IsReplayed (w : World) (me : Private) (tx : ℕ) (call : Call) (reply : Reply) : Type 0 where
  pub fits : IsTrue (fits w me tx call (answer_of reply))
  pub gives : (act w me tx call (answer_of reply)).reply ≡ reply

-- a call, with the answer that its reply tells
abbrev pub told : Call → Reply → CallWithAnswer
told call reply = record { call = call; answer = answer_of reply }

-- the same of each call behind those before it
abbrev pub AreReplayedOn : ℕ → BlockState → List Call → List Reply → Type 0
AreReplayedOn tx b [] replies = replies ≡ []
AreReplayedOn tx b (call ∷ calls) [] = ⊥
AreReplayedOn tx b (call ∷ calls) (reply ∷ replies) =
    IsReplayed b.now.world b.now.me tx call reply × AreReplayedOn tx (block_step tx b (told call reply)) calls replies

-- and of all calls of a body
abbrev pub AreReplayed : World → Private → ℕ → List Call → List Reply → Type 0
AreReplayed w me tx calls replies = AreReplayedOn tx (opens w me) calls replies

-- the answer that its end tells fits the late call, which ends so
pub record IsEnded (w : World) (call : LateCall) (end : LateEnd) : Type 0 where
  pub fits : IsTrue (late_fits w call (late_answer_of end))
  pub gives : (late w call (late_answer_of end)).end ≡ end

-- the same of each late call behind those before it
abbrev pub AreEnded : World → List LateCall → List LateEnd → Type 0
AreEnded w [] ends = ends ≡ []
AreEnded w (call ∷ calls) [] = ⊥
AreEnded w (call ∷ calls) (end ∷ ends) = IsEnded w call end × AreEnded (late w call (late_answer_of end)).world calls ends

-- where they lead
abbrev pub led_by : World → List LateCall → List LateEnd → World
led_by w [] ends = w
led_by w (call ∷ calls) [] = w
led_by w (call ∷ calls) (end ∷ ends) = led_by (late w call (late_answer_of end)).world calls ends
