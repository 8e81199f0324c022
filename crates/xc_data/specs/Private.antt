-- A job's handles.
use Rattle.std.specs.Prelude.{ℕ, ◌<◌, Bool, true, false, List, unwrap_or, slice_get, slice_set, position, Option}
use Rattle.xc_data.specs.declared.private.Place.{Place}
use Rattle.xc_data.specs.declared.private.Place.TheVariants.{Vacant, File, Pipe, Pair}
use Rattle.xc_data.specs.declared.private.Private.{Private}

-- what stands at a handle
abbrev pub place_of : List Place → ℕ → Place
place_of places h = unwrap_or (slice_get places h) Vacant

-- whether nothing stands at a place
abbrev pub is_vacant : Place → Bool
is_vacant Vacant = true
is_vacant _ = false

-- the lowest vacant handle, if one is
abbrev pub lowest_vacant : List Place → Option ℕ
lowest_vacant places = position is_vacant places

-- the private state with another place at a handle
abbrev pub with_place : Private → ℕ → Place → Private
with_place me h place = record me { places = slice_set me.places h place }

-- a side of a pair is 0 or 1
abbrev pub IsSided : Place → Type 0
IsSided (Pair num side) = side < 2
IsSided (Pipe num) = Unit {0}
IsSided (File num at) = Unit {0}
IsSided Vacant = Unit {0}
