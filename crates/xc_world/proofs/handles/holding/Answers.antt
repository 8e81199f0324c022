use Rattle.std.proofs.Common.{ap, ◌∙◌}
use Rattle.std.specs.Prelude.{get_or, List}
use Rattle.xc_data.specs.declared.private.Place.{Place}
use Rattle.xc_data.specs.declared.private.Place.TheVariants.{Vacant}
use Rattle.xc_data.specs.declared.private.Private.{Private}
use Rattle.xc_data.specs.Private.{with_place}
use Rattle.xc_world.specs.World.{beginning}
use Rattle.xc_world.proofs.MachineHandles.{place_filled}
use Rattle.xc_world.proofs.handles.holding.Goals as goal

pub loop-h-preserved : goal.loop-h-preserved
loop-h-preserved c =
    c.set_place.ensures ∙ ap (λ (me : Private). with_place me c.loop-h.h (get_or c.args.places.now c.loop-h.h Vacant)) c.loop-h.invariant
    ∙ ap (λ (places : List Place). beginning places) (place_filled c.args.places.now c.loop-h.h 256 c.loop-h-test.true c.requires)
