-- One body after another.
use Rattle.std.specs.Prelude.{◌++◌}
use Rattle.xc_world.specs.Run.{BodyResult}

-- what came before, and then what a body gave that began there
abbrev pub behind : BodyResult → BodyResult → BodyResult
behind r later =
    record later {
      replies = r.replies ++ later.replies;
      late = r.late ++ later.late;
      trail = r.trail ++ later.trail;
      taken = r.taken ++ later.taken;
      touched = r.touched ++ later.touched;
    }
