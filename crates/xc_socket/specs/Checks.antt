-- What stands at the handle of a call on a side of a pair, and the private checks of such a call.
use Rattle.std.specs.Prelude.{◌≡◌, ℕ, true, not, nat_lt, Option, if◌then◌else◌}
use Rattle.std.specs.declared.option.Option.TheVariants.{None, Some}
use Rattle.xc_data.specs.declared.call.Reply.{Reply}
use Rattle.xc_data.specs.declared.call.Reply.TheVariants.{BadHandle, TooBig, TooMuch}
use Rattle.xc_data.specs.declared.private.Place.{Place}
use Rattle.xc_data.specs.declared.private.Place.TheVariants.{Vacant, File, Pipe, Pair}
use Rattle.xc_data.specs.declared.private.Private.{Private}
use Rattle.xc_data.specs.Private.{place_of}
use Rattle.xc_host.specs.Contents.{Contents}
use Rattle.xc_host.specs.Pairs.{has_pair}
use Rattle.xc_world.specs.Checks.{is_pair, passes_store}

-- a pair that is open at a place is there
abbrev pub IsPairIn : Contents → Place → Type 0
IsPairIn c (Pair num side) = has_pair c num ≡ true
IsPairIn c (Pipe num) = Unit {0}
IsPairIn c (File num at) = Unit {0}
IsPairIn c Vacant = Unit {0}

-- the reply of the first check that refuses a call of n bytes at a handle
abbrev pub pair_refusal_at : Private → ℕ → ℕ → Option Reply
pair_refusal_at me h n =
    if not (is_pair (place_of me.places h)) then Some BadHandle
    else if nat_lt 1024 n then Some TooBig
    else if passes_store me n then Some TooMuch
    else None
