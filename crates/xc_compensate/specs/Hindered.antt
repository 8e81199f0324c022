-- Records with their ends, among which one may stand in the way of an older one.
use Rattle.std.specs.Prelude.{Bool, not}
use Rattle.xc_world.specs.Ends.{Ending, is_undone}

-- it failed or was blocked
abbrev pub hinders : Ending → Bool
hinders ending = not (is_undone ending.1)
