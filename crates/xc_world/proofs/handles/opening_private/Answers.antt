use Rattle.std.proofs.Common.{◌≡◌, List, length, arith, ap, ◌∙◌}
use Rattle.xc_data.specs.declared.private.Place.{Place}
use Rattle.xc_data.specs.declared.script.Opened.{Opened}
use Rattle.xc_world.specs.Opening.{handles_of}
use Rattle.xc_world.proofs.MachineHandles.{length-handles_of}
use Rattle.xc_world.proofs.handles.opening_private.Goals as goal

pub holding-requires : goal.holding-requires
holding-requires c =
    let len = length-handles_of 0 c.args.script.now.prologue.objects in
    let same : length c.as_slice-2.result.now ≡ length (handles_of 0 c.args.script.now.prologue.objects) =
    ap (λ (xs : List Place). length xs) (c.as_slice-2.ensures ∙ c.in_ok-places.ensures ∙ ap (λ (xs : List Opened). handles_of 0 xs) c.as_slice.ensures) in
    omega (arith, c.requires.prologue.pipes, c.requires.prologue.pairs)
