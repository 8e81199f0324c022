-- What undoing all records of a body brings back.
use Rattle.std.specs.Prelude.{◌≡◌, List, ◌++◌, length, Option}
use Rattle.std.specs.declared.option.Option.TheVariants.{None, Some}
use Rattle.std.specs.FinMap as map
use Rattle.xc_data.specs.declared.object.Num.{Num}
use Rattle.xc_world.specs.World.{World, Pipe, Pair}

-- the rest of a list, where a front of it was taken
pub record IsRest {A : Type 0} (whole rest : List A) : Type 0 where
  pub taken : List A
  pub split : whole ≡ taken ++ rest

-- the same pipe, but for bytes that were taken
pub record IsPipeRest (was now : Pipe) : Type 0 where
  pub shut : now.shut ≡ was.shut
  pub held : IsRest was.held now.held

-- the same pair, but for messages that were taken
pub record IsPairRest (was now : Pair) : Type 0 where
  pub shut : now.shut ≡ was.shut
  pub first : IsRest was.first now.first
  pub second : IsRest was.second now.second

-- two objects are there, of which this holds, or none
abbrev pub BothOrNone : {A : Type 0} → (A → A → Type 0) → Option A → Option A → Type 0
BothOrNone P None None = Unit {0}
BothOrNone P (Some was) (Some now) = P was now
BothOrNone P _ _ = ⊥

-- the world v is w again, outside the words and what was taken from pipes and pairs
pub record BroughtBack (w v : World) : Type 0 where
  -- each name has the file that it had, and none is new
  pub names : v.names ≡ w.names
  -- each file has the bytes that it had, and none is new
  pub files : v.files ≡ w.files
  -- each pipe is what is left of it, and none is new
  pub pipes : (num : Num) → BothOrNone IsPipeRest (map.get w.pipes num) (map.get v.pipes num)
  -- each pair is what is left of it, and none is new
  pub pairs : (num : Num) → BothOrNone IsPairRest (map.get w.pairs num) (map.get v.pairs num)
  -- no job more is started
  pub started : v.started ≡ w.started
  -- the script's blocks are the same
  pub blocks : v.blocks ≡ w.blocks
  -- there are as many words
  pub words : length v.words ≡ length w.words
