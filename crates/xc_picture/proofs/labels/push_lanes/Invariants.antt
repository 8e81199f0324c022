use Rattle.std.proofs.Common.{◌≡◌, ◌++◌, ◌+◌, ◌-◌}
use Rattle.xc_picture.specs.Drawn.{lane_labels}
use Rattle.xc_picture.specs.Elements.{elements_text}
use Rattle.xc_picture.proofs.labels.push_lanes.Given as goal

-- what is printed and what is left are all
abbrev pub invariant-loop-before : goal.invariant-loop-before
invariant-loop-before l = l.out ++ elements_text (lane_labels (l.before + 1) (l.lanes - l.before))
    ≡ l.fn.out ++ elements_text (lane_labels 1 l.lanes)
