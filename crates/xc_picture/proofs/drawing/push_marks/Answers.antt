use Rattle.std.proofs.Common.{◌≡◌, ◌++◌, ◌∙◌, ap, codes}
use Rattle.xc_picture.specs.Drawn.{mark_if, mark_area}
use Rattle.xc_picture.specs.Elements.{elements_text}
use Rattle.xc_picture.specs.declared.shapes.Area.{Area}
use Rattle.xc_picture.specs.declared.shapes.ShapeStyle.TheVariants as look
use Rattle.xc_picture.proofs.Texts.{two_texts}
use Rattle.xc_picture.proofs.drawing.push_marks.Goals as goal

pub returns : goal.returns
returns c =
    let bar = c.args.bar.now in
    let out = c.args.out.now in
    let late = mark_if bar.late (mark_area 0 bar) look.Late (codes "late calls") in
    let faults = mark_if bar.faults (mark_area 1 bar) look.Faults (codes "faults") in
    let remains = mark_if bar.remains (mark_area 2 bar) look.Remains (codes "something remains") in
    let first : c.push_mark.new.out ≡ out ++ elements_text late =
    c.in_ok-push_mark.ensures
    ∙ ap (λ (area : Area). out ++ elements_text (mark_if bar.late area look.Late (codes "late calls"))) c.mark_area.ensures in
    let second : c.push_mark-2.new.out ≡ c.push_mark.new.out ++ elements_text faults =
    c.in_ok-push_mark-2.ensures
    ∙ ap (λ (area : Area). c.push_mark.new.out ++ elements_text (mark_if bar.faults area look.Faults (codes "faults"))) c.mark_area-2.ensures in
    let third : c.push_mark-3.new.out ≡ c.push_mark-2.new.out ++ elements_text remains =
    c.in_ok-push_mark-3.ensures
    ∙ ap (λ (area : Area). c.push_mark-2.new.out ++ elements_text (mark_if bar.remains area look.Remains (codes "something remains")))
    c.mark_area-3.ensures in
    two_texts out c.push_mark-2.new.out c.push_mark-3.new.out (late ++ faults) remains
    (two_texts out c.push_mark.new.out c.push_mark-2.new.out late faults first second) third
