-- A script's asks, and calls that reply in time, with one reply more.
use Rattle.std.proofs.Common.{◌≡◌, List, [], ◌∷◌, ◌++◌, refl}
use Rattle.xc_data.specs.declared.call.Call.{Call}
use Rattle.xc_data.specs.declared.call.Reply.{Reply}
use Rattle.xc_script.specs.declared.ask.Ask.TheVariants as ask
use Rattle.xc_script.specs.Blocks.{BlockWalk, replied, all_replied}
use Rattle.xc_script.specs.Asking.{asks}
use Rattle.xc_model.specs.InTime.{AreInTime, RepliesInTime}
use Rattle.xc_model.specs.Asked.{AsksEach}

-- one more reply is answered last
pub answered-more : (walk : BlockWalk) (replies : List Reply) (r : Reply) → all_replied walk (replies ++ r ∷ []) ≡ replied (all_replied walk replies) r
answered-more walk [] r = refl
answered-more walk (q ∷ replies) r = answered-more (replied walk q) replies r

-- the calls are the script's with one more, where the script asks it
pub asks-more : (walk : BlockWalk) (calls : List Call) (replies : List Reply) (c : Call) (r : Reply) → AsksEach walk calls replies
    → asks (all_replied walk replies).walk ≡ ask.Call c → AsksEach walk (calls ++ c ∷ []) (replies ++ r ∷ [])
asks-more walk [] [] c r h e = (e, refl)
asks-more walk [] (q ∷ replies) c r h e = cc
asks-more walk (d ∷ calls) [] c r h e = absurd h
asks-more walk (d ∷ calls) (q ∷ replies) c r h e = (h.0, asks-more (replied walk q) calls replies c r h.1 e)

-- one call more replies in time too
pub in_time-more : (calls : List Call) (replies : List Reply) (c : Call) (r : Reply) → RepliesInTime c r → AreInTime calls replies
    → AreInTime (calls ++ c ∷ []) (replies ++ r ∷ [])
in_time-more [] [] c r one h = (one, refl)
in_time-more [] (q ∷ replies) c r one h = cc
in_time-more (d ∷ calls) [] c r one h = absurd h
in_time-more (d ∷ calls) (q ∷ replies) c r one h = (h.0, in_time-more calls replies c r one h.1)
