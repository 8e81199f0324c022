-- The private state of a transaction, put back as it was before a call.
use Rattle.std.specs.Prelude.{ℕ, List, slice_set, Option}
use Rattle.std.specs.declared.option.Option.TheVariants.{None, Some}
use Rattle.xc_data.specs.Calls.{traits}
use Rattle.xc_data.specs.Private.{place_of}
use Rattle.xc_data.specs.declared.call.Call.{Call}
use Rattle.xc_data.specs.declared.call.HandleUse.{HandleUse}
use Rattle.xc_data.specs.declared.call.HandleUse.TheVariants as handles
use Rattle.xc_data.specs.declared.call.Reply.{Reply}
use Rattle.xc_data.specs.declared.call.Reply.TheVariants as reply
use Rattle.xc_data.specs.declared.private.Place.{Place}
use Rattle.xc_data.specs.declared.private.Place.TheVariants.{Vacant}

-- the handle that a reply gives
abbrev pub handle_in : Reply → Option ℕ
handle_in (reply.Made h) = Some h
handle_in r = None

-- the handle at which what is there may have changed, with this reply
abbrev pub changed_as : HandleUse → Reply → Option ℕ
changed_as handles.Unchanged r = None
changed_as (handles.At h) r = Some h
changed_as handles.New r = handle_in r
-- two handles take no memory, and so are never put back
changed_as handles.NewPair r = None

-- the handle at which a call with this reply may have changed what is there
abbrev pub changed_at : Call → Reply → Option ℕ
changed_at call r = changed_as (traits call).handle r

-- what was there before it: nothing, where a handle is given
abbrev pub place_as : HandleUse → List Place → Place
place_as handles.Unchanged places = Vacant
place_as (handles.At h) places = place_of places h
place_as handles.New places = Vacant
place_as handles.NewPair places = Vacant

-- what was at the handle that a call may change
abbrev pub place_before : Call → List Place → Place
place_before call places = place_as (traits call).handle places

-- these places with this one at a handle, if there is one
abbrev pub place_put_at : Option ℕ → Place → List Place → List Place
place_put_at None p places = places
place_put_at (Some h) p places = slice_set places h p
