use Rattle.std.proofs.Common.{◌≤◌, rules}
use Rattle.xc_buffers.proofs.Ordered.{start_within}
use Rattle.xc_buffers.proofs.Takes.{items_there}
use Rattle.xc_buffers.proofs.rows.part_of.Goals as goal

pub slice_bounds-result-start : goal.slice_bounds-result-start
slice_bounds-result-start c =
    let le : c.start_of-from.result ≤ c.place_of-to.result =
    start_within c.args.source c.args.items.now _ _ c.start_of-from.ensures.within c.start_of-from.ensures.start c.place_of-to.ensures.place in
    search rules

pub slice_bounds-result-count : goal.slice_bounds-result-count
slice_bounds-result-count c =
    start_within c.args.source c.args.items.now _ _ c.start_of-from.ensures.within c.start_of-from.ensures.start c.place_of-to.ensures.place

pub returns : goal.returns
returns c =
    items_there c.args.source c.args.items.now c.start_of-from.result c.place_of-to.result
    (start_within c.args.source c.args.items.now _ _ c.start_of-from.ensures.within c.start_of-from.ensures.start c.place_of-to.ensures.place)
    c.place_of-to.ensures.within c.start_of-from.ensures.start c.place_of-to.ensures.place
