use Rattle.xc_picture.proofs.Texts.{lane_drawn}
use Rattle.xc_picture.proofs.labels.push_lanes.Goals as goal

pub loop-before-preserved : goal.loop-before-preserved
loop-before-preserved c =
    lane_drawn c.loop-before.out c.push_lane.new.out _ c.loop-before.before c.args.lanes c.loop-before-test.true c.in_ok-push_lane.ensures
    c.loop-before.invariant
