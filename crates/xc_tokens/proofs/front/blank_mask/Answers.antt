use Rattle.std.proofs.Common.{refl}
use Rattle.std.proofs.lemmas.Simd.{zip2_of_maps, zip2_splat, length-chunk}
use lib.Lanes.{chunk}
use Rattle.xc_tokens.specs.Tokens.{is_blank}
use Rattle.xc_lanes.proofs.Laws.{mask_of}
use Rattle.xc_tokens.proofs.front.blank_mask.Goals as goal

pub returns : goal.returns
returns c =
    let v = chunk 0 16 c.args.bytes.now in
    let long = length-chunk 0 16 c.args.bytes.now c.requires in
    mask_of is_blank _ c.args.bytes.now _ c.requires c.type_inv.bytes
    (zip2_of_maps _ _ _ v (zip2_splat _ v 16 32 long) (zip2_splat _ v 16 9 long)) refl
