use Rattle.std.proofs.Common.{sym}
use Rattle.std.proofs.lemmas.Bool.Decides.{not_from_Decides}
use Rattle.xc_grounds.proofs.Naming.{named_only, named_there, none_named, place_within}
use Rattle.xc_grounds.proofs.grounds.named.Goals as goal

pub returns-in_err-there : goal.returns-in_err-there
returns-in_err-there c =
    rw c.from_residual.ensures (λ who.
    none_named c.args.parts.now c.args.places.now.by_number.items c.requires c.args.place c.args.number c.args.at c.args.part.now who
    (sym c.in_err-there.ensures))

pub bounds-parts-there : goal.bounds-parts-there
bounds-parts-there c = place_within c.args.parts.now c.args.places.now.by_number.items c.requires c.args.number _ (sym c.in_ok-there.ensures)

pub returns-then-are_two : goal.returns-then-are_two
returns-then-are_two c =
    named_there c.args.parts.now c.args.places.now.by_number.items c.requires c.args.place c.args.number c.args.at _ c.args.part.now _
    (sym c.in_ok-there.ensures) c.index-parts-there.is (c.are_two.ensures.0 c.if-are_two.true)

pub returns : goal.returns
returns c =
    named_only c.args.parts.now c.args.places.now.by_number.items c.requires c.args.place c.args.number c.args.at _ c.args.part.now _
    (sym c.in_ok-there.ensures) c.index-parts-there.is (not_from_Decides c.are_two.result c.are_two.ensures c.if-are_two.false)
