use Rattle.std.proofs.Common.{ℕ, cond, ltb, refl, ◌∙◌}
use Rattle.std.proofs.lemmas.Simd.{zip2_of_maps, zip2_splat, zip2_splat_left, length-chunk}
use lib.Lanes.{chunk}
use Rattle.xc_tokens.specs.Lines.{is_line_byte}
use Rattle.xc_lanes.proofs.Laws.{lane_run}
use Rattle.xc_tokens.proofs.lines.LineBytesByteKind.first_run.Goals as goal

pub returns : goal.returns
returns c =
    let v = chunk 0 16 c.args.bytes.now in
    let long = length-chunk 0 16 c.args.bytes.now c.requires in
    let above = zip2_splat_left {X = ℕ} (λ a b. cond (ltb a b) 255 0) 126 16 v long in
    c.first_set.ensures
    ∙ lane_run is_line_byte _ c.args.bytes.now _ c.requires c.type_inv.bytes
    (zip2_of_maps _ _ _ v (zip2_of_maps _ _ _ v (zip2_splat _ v 16 32 long) (zip2_splat _ v 16 9 long)) above) refl
