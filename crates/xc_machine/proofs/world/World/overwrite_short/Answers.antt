use Rattle.std.proofs.Common.{ℕ, ◌≤◌, length, arith, sym, ◌∙◌, length-take}
use Rattle.xc_machine.proofs.world.World.overwrite_short.Goals as goal

pub slice_bounds-put-end : goal.slice_bounds-put-end
slice_bounds-put-end c =
    let inside : c.args.n ≤ length c.args.bytes.now =
    (c.requires.inside c.in-File.num c.in-File.at (sym c.place.ensures.value ∙ c.in-File.is) (omega arith)).0 in
    grind (arith, inside, length-take {A = ℕ})
