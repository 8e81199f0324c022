use Rattle.std.proofs.Common.{rules, ◌≡◌, ◌++◌}
use Rattle.std.specs.FinMap as map
use Rattle.xc_picture.specs.Arrows.{arrows_of, spots_with}
use Rattle.xc_picture.specs.Drawn.{lane_labels, name_labels, left_out_note, break_note, bars_elements}
use Rattle.xc_picture.specs.Elements.{elements_text}
use Rattle.xc_picture.proofs.Texts.{two_texts}
use Rattle.xc_picture.proofs.whole.push_elements.Goals as goal

pub returns : goal.returns
returns c =
    let scene = c.args.scene.now in
    let left = left_out_note scene.left_out in
    let break = break_note scene.break_at in
    let lanes = lane_labels 1 scene.lanes in
    let names = name_labels scene.names in
    let bars = bars_elements scene.bars in
    let arrows = arrows_of (spots_with map.empty scene.bars) scene.bars in
    let out = c.args.out.now in
    let e1 : c.push_left_out.new.out ≡ out ++ elements_text left = search rules in
    let e2 : c.push_break.new.out ≡ c.push_left_out.new.out ++ elements_text break = search rules in
    let e3 : c.push_lanes.new.out ≡ c.push_break.new.out ++ elements_text lanes = search rules in
    let e4 : c.push_names.new.out ≡ c.push_lanes.new.out ++ elements_text names = search rules in
    let e5 : c.push_bars.new.out ≡ c.push_names.new.out ++ elements_text bars = search rules in
    let e6 : c.push_arrows.new.out ≡ c.push_bars.new.out ++ elements_text arrows = search rules in
    let o1 = c.push_left_out.new.out in
    let o2 = c.push_break.new.out in
    let o3 = c.push_lanes.new.out in
    let o4 = c.push_names.new.out in
    let o5 = c.push_bars.new.out in
    two_texts out o5 c.push_arrows.new.out (left ++ break ++ lanes ++ names ++ bars) arrows
    (two_texts out o4 o5 (left ++ break ++ lanes ++ names) bars
    (two_texts out o3 o4 (left ++ break ++ lanes) names
    (two_texts out o2 o3 (left ++ break) lanes (two_texts out o1 o2 left break e1 e2) e3) e4) e5) e6
