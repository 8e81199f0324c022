use Rattle.std.proofs.Common.{◌≡◌, ◌++◌, drop}
use Rattle.xc_picture.specs.Arrows.{arrows_of}
use Rattle.xc_picture.specs.Elements.{elements_text}
use Rattle.xc_picture.proofs.drawing.push_arrows.Given as goal

-- what is printed and what is left are all
abbrev pub invariant-loop-bar : goal.invariant-loop-bar
invariant-loop-bar l =
    l.out ++ elements_text (arrows_of l.spots (drop l.bar-index l.bars)) ≡ l.fn.out ++ elements_text (arrows_of l.spots l.bars)
