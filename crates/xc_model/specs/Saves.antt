-- What is kept for the way back of a block.
use Rattle.std.specs.Prelude.{Option}
use Rattle.std.specs.declared.option.Option.TheVariants.{None, Some}
use Rattle.xc_data.specs.declared.call.Call.{Call}
use Rattle.xc_data.specs.declared.call.Call.TheVariants as call

-- the block that a call opens or closes: what a save keeps is a copy of what is there after it
abbrev pub saved_by : {X : Type 0} → Call → Option X → X → Option X
saved_by call.Save kept copy = Some copy
saved_by call.Keep kept copy = None
saved_by call.Back kept copy = None
-- any other call is made in the block that is open, also one yet to come
saved_by _ kept copy = kept
