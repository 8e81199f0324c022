use Rattle.std.proofs.Common.{◌++◌, ◌∙◌, ap₂, Option}
use Rattle.xc_picture.specs.Arrows.{arrow_to}
use Rattle.xc_picture.specs.Elements.{elements_text}
use Rattle.xc_picture.specs.declared.scene.Spot.{Spot}
use Rattle.xc_picture.proofs.Texts.{arrow_drawn}
use Rattle.xc_picture.proofs.drawing.push_arrows.Goals as goal

pub loop-bar-preserved : goal.loop-bar-preserved
loop-bar-preserved c =
    arrow_drawn c.args.spots.now c.loop-bar.out c.push_arrow_to.new.out _ c.args.bars.now c.loop-bar.bar-index c.bar-item.result
    c.loop-bar-test.true c.bar-item.is
    (c.in_ok-push_arrow_to.ensures
    ∙ ap₂ (λ (from : Spot) (to : Option Spot). c.loop-bar.out ++ elements_text (arrow_to from to)) c.spot_of.ensures c.rival_spot.ensures)
    c.loop-bar.invariant
