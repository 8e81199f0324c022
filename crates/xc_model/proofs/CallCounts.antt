-- Calls and their replies are as many.
use Rattle.std.proofs.Common.{◌≡◌, List, [], ◌∷◌, length, ap, sym, suc}
use Rattle.xc_data.specs.declared.call.Call.{Call}
use Rattle.xc_data.specs.declared.call.Reply.{Reply}
use Rattle.xc_model.specs.InTime.{AreInTime}

-- each call has its reply
pub in_time-count : (calls : List Call) (replies : List Reply) → AreInTime calls replies → length calls ≡ length replies
in_time-count [] replies h = ap length (sym h)
in_time-count (d ∷ calls) [] h = absurd h
in_time-count (d ∷ calls) (q ∷ replies) h = ap suc (in_time-count calls replies h.1)
