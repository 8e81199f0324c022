use Rattle.std.proofs.Common.{refl, ◌∙◌}
use Rattle.std.proofs.lemmas.Simd.{zip2_of_maps, zip2_splat, length-chunk}
use lib.Lanes.{chunk}
use Rattle.xc_tokens.specs.Quoted.{is_itself}
use Rattle.xc_lanes.proofs.Laws.{lane_run}
use Rattle.xc_lines.proofs.quoted.OwnBytesByteKind.first_run.Goals as goal

pub returns : goal.returns
returns c =
    let v = chunk 0 16 c.args.bytes.now in
    let long = length-chunk 0 16 c.args.bytes.now c.requires in
    c.first_set.ensures
    ∙ lane_run is_itself _ c.args.bytes.now _ c.requires c.type_inv.bytes
    (zip2_of_maps _ _ _ v (zip2_splat _ v 16 34 long) (zip2_splat _ v 16 92 long)) refl
