-- What a step gives.
use Rattle.std.specs.Prelude.{ℕ, ◌+◌, ◌≤◌, length, List, Option}
use Rattle.std.specs.declared.option.Option.TheVariants.{None, Some}
use Rattle.xc_data.specs.Calls.{traits}
use Rattle.xc_data.specs.declared.call.Call.{Call}
use Rattle.xc_data.specs.declared.call.Reply.{Reply}
use Rattle.xc_data.specs.declared.call.Reply.TheVariants.{Got}
use Rattle.xc_data.specs.declared.private.Private.{Private}
use Rattle.xc_world.specs.World.{World}

-- the world and the private state after a call, and its reply
pub record Stepped : Type 0 where
  pub world : World
  pub me : Private
  pub reply : Reply

-- the step to this world and private state
abbrev pub step_to : World → Private → Reply → Stepped
step_to w me r = record { world = w; me = me; reply = r }

-- so many more bytes are stored
abbrev pub storing : Private → ℕ → Private
storing me n = record me { stored = me.stored + n }

-- bytes are stored, where some are carried
abbrev pub storing_carried : Option (List ℕ) → Private → Private
storing_carried None me = me
storing_carried (Some bytes) me = storing me (length bytes)

-- the bytes of a call are stored
abbrev pub storing_call : Call → Private → Private
storing_call call me = storing_carried (traits call).bytes me

-- the bytes of a reply are stored
abbrev pub storing_reply : Reply → Private → Private
storing_reply (Got bytes) me = storing me (length bytes)
-- any other reply brings no bytes, also one yet to come
storing_reply _ me = me

-- a call that passed the checks has its bytes and its reply's counted
abbrev pub bytes_counted : Call → Stepped → Stepped
bytes_counted call s = step_to s.world (storing_reply s.reply (storing_call call s.me)) s.reply

-- the bytes that a reply brings are at most 1,024
abbrev pub IsShortReply : Reply → Type 0
IsShortReply (Got bytes) = length bytes ≤ 1024
-- any other reply brings none, also one yet to come
IsShortReply _ = Unit {0}
