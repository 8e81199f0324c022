use Rattle.xc_picture.proofs.Texts.{bar_drawn}
use Rattle.xc_picture.proofs.drawing.push_bars.Goals as goal

pub loop-bar-preserved : goal.loop-bar-preserved
loop-bar-preserved c =
    bar_drawn c.loop-bar.out c.push_bar.new.out _ c.args.bars.now c.loop-bar.bar-index c.bar-item.result c.loop-bar-test.true c.bar-item.is
    c.in_ok-push_bar.ensures c.loop-bar.invariant
