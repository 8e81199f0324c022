use Rattle.std.proofs.Common.{◌≡◌, ◌-◌, ◌++◌, take, replicate}
use Rattle.xc_data.specs.declared.private.Place.TheVariants.{Vacant}
use Rattle.xc_world.specs.World.{beginning}
use Rattle.xc_world.proofs.handles.holding.Given as goal

-- the places so far, with vacant ones after them
abbrev pub invariant-loop-h : goal.invariant-loop-h
invariant-loop-h l = l.me ≡ beginning (take l.h l.places ++ replicate (256 - l.h) Vacant)
