use Rattle.std.proofs.Common.{refl, ◌∙◌}
use Rattle.std.proofs.lemmas.Simd.{zip2_splat, length-chunk}
use lib.Lanes.{chunk}
use Rattle.xcalls_check.specs.Halves.{is_inner}
use Rattle.xc_lanes.proofs.Laws.{lane_run}
use Rattle.xcalls_check.proofs.halves.InnerBytesByteKind.first_run.Goals as goal

pub returns : goal.returns
returns c =
    let v = chunk 0 16 c.args.bytes.now in
    let long = length-chunk 0 16 c.args.bytes.now c.requires in
    c.first_set.ensures ∙ lane_run is_inner _ c.args.bytes.now _ c.requires c.type_inv.bytes (zip2_splat _ v 16 10 long) refl
