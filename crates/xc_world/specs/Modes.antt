-- In which mode a call touches its objects.
use Rattle.std.specs.Prelude.{ℕ, List, map}
use Rattle.xc_data.specs.declared.call.Call.{Call}
use Rattle.xc_data.specs.declared.call.Call.TheVariants.{Load, XOpen, XRead, XLen, XSync}
use Rattle.xc_data.specs.declared.private.Private.{Private}
use Rattle.xc_data.specs.declared.claim.Mode.{Mode}
use Rattle.xc_data.specs.declared.claim.Mode.TheVariants.{Shared, Exclusive}
use Rattle.xc_data.specs.declared.claim.Claim.{Claim}
use Rattle.xc_data.specs.Claims.{claim}
use Rattle.xc_world.specs.Touch.{touch}

-- the five calls that only look
abbrev pub mode_of : Call → Mode
mode_of (Load at) = Shared
mode_of (XOpen name) = Shared
mode_of (XRead h n) = Shared
mode_of (XLen h) = Shared
mode_of (XSync h slot) = Shared
-- any other call, also one yet to come: to keep all others away is never wrong
mode_of _ = Exclusive

-- what a call claims: the objects that it touches, in its mode
abbrev pub claims_of : Call → Private → ℕ → List Claim
claims_of call me words = map (claim (mode_of call)) (touch call me words)
