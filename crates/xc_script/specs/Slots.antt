-- What the late calls of a commit leave in a job's slots.
use Rattle.std.specs.Prelude.{ℕ, Bool, true, false, not, ◌&&◌, List, [], ◌∷◌, Option, if◌then◌else◌}
use Rattle.std.specs.declared.option.Option.TheVariants.{None, Some}
use Rattle.xc_data.specs.declared.call.Call.{Call}
use Rattle.xc_data.specs.declared.call.Call.TheVariants as call
use Rattle.xc_data.specs.declared.call.Reply.{Reply}
use Rattle.xc_data.specs.declared.call.LateEnd.{LateEnd}
use Rattle.xc_script.specs.JobSlots.{with_slot}
use Rattle.xc_data.specs.Calls.{is_late, slot_of}
use Rattle.xc_script.specs.Values.{Variables}

-- whether the block that these calls go on in goes back: no other line of a block comes before its back
abbrev pub goes_back : List Call → List Reply → Bool
goes_back [] replies = false
goes_back (c ∷ calls) [] = false
goes_back (call.Save ∷ calls) (reply ∷ replies) = false
goes_back (call.Keep ∷ calls) (reply ∷ replies) = false
goes_back (call.Back ∷ calls) (reply ∷ replies) = true
goes_back (_ ∷ calls) (reply ∷ replies) = goes_back calls replies

-- the kept calls among those that are left: in a block that goes back they are dropped
abbrev pub kept_behind : Bool → List Call → List Reply → List Call
kept_behind dropped [] replies = []
kept_behind dropped (c ∷ calls) [] = []
kept_behind dropped (call.Save ∷ calls) (reply ∷ replies) = kept_behind (goes_back calls replies) calls replies
kept_behind dropped (call.Keep ∷ calls) (reply ∷ replies) = kept_behind false calls replies
kept_behind dropped (call.Back ∷ calls) (reply ∷ replies) = kept_behind false calls replies
kept_behind dropped (c ∷ calls) (reply ∷ replies) =
    if is_late reply && not dropped then c ∷ kept_behind dropped calls replies else kept_behind dropped calls replies

-- a slot takes an end, where one is named
abbrev pub with_slot_end : Variables → Option (List ℕ) → LateEnd → Variables
with_slot_end variables None end = variables
with_slot_end variables (Some name) end = record variables { slots = with_slot variables.slots name end }

-- the slots of kept calls take their ends, one after another: of two with one slot the later end stands
abbrev pub with_ends : Variables → List Call → List LateEnd → Variables
with_ends variables [] ends = variables
with_ends variables (c ∷ calls) [] = variables
with_ends variables (c ∷ calls) (end ∷ ends) = with_ends (with_slot_end variables (slot_of c) end) calls ends
