-- What a call that passed the checks leaves to be counted.
use Rattle.std.proofs.Common.{◌≡◌, ℕ, ◌≤◌, false, IsTrue, arith, subst}
use Rattle.xc_data.specs.declared.call.Call.{Call}
use Rattle.xc_data.specs.declared.call.Call.TheVariants as call
use Rattle.xc_data.specs.declared.call.Answer.{Answer}
use Rattle.xc_data.specs.declared.call.Reply.{Reply}
use Rattle.xc_data.specs.declared.call.Reply.TheVariants as reply
use Rattle.xc_data.specs.declared.private.Private.{Private}
use Rattle.xc_world.specs.World.{World}
use Rattle.xc_world.specs.Sound.{IsSound}
use Rattle.xc_world.specs.Checks.{is_too_big, is_too_much}
use Rattle.xc_world.specs.Fits.{fits}
use Rattle.xc_world.specs.Act.{done}
use Rattle.xc_world.specs.Act.Step.{step_to, IsShortReply}
use Rattle.xc_world.proofs.Laws.{read_size, done_well, StepsWell, got_length}

read_size-short : (c : Call) → is_too_big c ≡ false → read_size c ≤ 1024
read_size-short (call.XRead h n) e = grind (arith, e)
read_size-short (call.XReadPipe h n) e = grind (arith, e)
read_size-short (call.XRecvmsg h) e = omega arith
read_size-short _ e = omega arith

short_reply : (r : Reply) → got_length r ≤ 1024 → IsShortReply r
short_reply (reply.Got bytes) le = le
short_reply _ le = tt

-- what is stored stays until the call is counted, and its reply brings at most 1,024 bytes
pub record IsCountable (me next : Private) (r : Reply) : Type 0 where
  pub stored : next.stored ≡ me.stored
  pub short : IsShortReply r

-- a call that passes, and that its answer fits, is countable
pub passed-countable : (w v : World) (me next : Private) (tx : ℕ) (c : Call) (a : Answer) (r : Reply) → IsSound w me tx → IsTrue (fits w me tx c a)
    → is_too_big c ≡ false → is_too_much c me ≡ false → done w me tx c a ≡ step_to v next r → IsCountable me next r
passed-countable w v me next tx c a r sound fit big much e =
    let well : StepsWell w tx me (read_size c) (step_to v next r) = subst (StepsWell w tx me (read_size c)) e (done_well w me tx c a fit much sound) in
    let most = read_size-short c big in
    record { stored = well.stored; short = short_reply r (omega (arith, well.got)) }
