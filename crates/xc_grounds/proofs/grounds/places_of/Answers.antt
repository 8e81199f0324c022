use Rattle.std.proofs.Common.{Some, ap, length, refl, sym, ◌∙◌}
use Rattle.std.proofs.lemmas.Option.{slice_get_read}
use Rattle.xc_grounds.proofs.Numbering.{part_entered}
use Rattle.xc_grounds.proofs.grounds.places_of.Goals as goal

pub loop-place-preserved : goal.loop-place-preserved
loop-place-preserved c =
    let l = c.loop-place in
    let parts = c.args.parts.now in
    let at = slice_get_read parts (length parts) l.place c.index-parts-place.result refl c.loop-place-test.true c.index-parts-place.is
    ∙ ap Some (sym c.part.view_is) in
    let more = part_entered parts l.place _ l.places.by_number.items _ c.enter.result c.requires.numbered l.invariant.has l.invariant.same at
    c.enter.ensures.free c.enter.ensures.table in
    record {
      same = more.1;
      has = more.0;
    }
