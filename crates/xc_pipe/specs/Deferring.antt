-- What a shutdown is of.
use Rattle.std.specs.Prelude.{Option}
use Rattle.std.specs.declared.option.Option.TheVariants.{None, Some}
use Rattle.xc_data.specs.declared.object.Object.{Object}
use Rattle.xc_data.specs.declared.object.Object.TheVariants as object
use Rattle.xc_data.specs.declared.private.Place.{Place}
use Rattle.xc_data.specs.declared.private.Place.TheVariants as place

-- the pipe or the pair at a place
abbrev pub shuttable_at : Place → Option Object
shuttable_at (place.Pipe num) = Some (object.Pipe num)
shuttable_at (place.Pair num side) = Some (object.Pair num)
shuttable_at (place.File num at) = None
shuttable_at place.Vacant = None
