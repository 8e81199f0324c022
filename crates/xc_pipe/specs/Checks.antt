-- The private checks of a call of so many bytes on an open pipe.
use Rattle.std.specs.Prelude.{ℕ, not, nat_lt, Option, if◌then◌else◌}
use Rattle.std.specs.declared.option.Option.TheVariants.{None, Some}
use Rattle.xc_data.specs.declared.call.Reply.{Reply}
use Rattle.xc_data.specs.declared.call.Reply.TheVariants.{BadHandle, TooBig, TooMuch}
use Rattle.xc_data.specs.declared.private.Private.{Private}
use Rattle.xc_data.specs.Private.{place_of}
use Rattle.xc_world.specs.Checks.{is_pipe, passes_store}

-- the reply of the first check that refuses a call of n bytes at a handle
abbrev pub pipe_refusal_at : Private → ℕ → ℕ → Option Reply
pipe_refusal_at me h n =
    if not (is_pipe (place_of me.places h)) then Some BadHandle
    else if nat_lt 1024 n then Some TooBig
    else if passes_store me n then Some TooMuch
    else None
