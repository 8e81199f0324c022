-- When calls reply: those that are kept for the commit with no word from a host, and all others at once.
use Rattle.std.specs.Prelude.{◌≡◌, ℕ, true, false, List, [], ◌∷◌}
use Rattle.xc_data.specs.declared.call.Answer.TheVariants.{Fine}
use Rattle.xc_data.specs.declared.call.Call.{Call}
use Rattle.xc_data.specs.declared.call.Reply.{Reply}
use Rattle.xc_data.specs.declared.private.Private.{Private}
use Rattle.xc_world.specs.Act.{act}
use Rattle.xc_data.specs.Calls.{is_late, is_kept}
use Rattle.xc_world.specs.World.{World}

-- the plain machine's reply to a call in some private state, whatever the world is: late, or refused by a private check
abbrev pub IsKeptReply : Call → Reply → Type 0
IsKeptReply call reply = (me : Private) × (tx : ℕ) × ((w : World) → reply ≡ (act w me tx call Fine).reply)

-- a call that is kept for the commit has such a reply, and no other one replies late
pub record RepliesInTime (call : Call) (reply : Reply) : Type 0 where
  pub kept : is_kept call ≡ true → IsKeptReply call reply
  pub now : is_kept call ≡ false → is_late reply ≡ false

-- each of several calls does
abbrev pub AreInTime : List Call → List Reply → Type 0
AreInTime [] replies = replies ≡ []
AreInTime (call ∷ calls) [] = ⊥
AreInTime (call ∷ calls) (reply ∷ replies) = RepliesInTime call reply × AreInTime calls replies
