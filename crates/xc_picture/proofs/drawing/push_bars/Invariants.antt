use Rattle.std.proofs.Common.{◌≡◌, ◌++◌, drop}
use Rattle.xc_picture.specs.Drawn.{bars_elements}
use Rattle.xc_picture.specs.Elements.{elements_text}
use Rattle.xc_picture.proofs.drawing.push_bars.Given as goal

-- what is printed and what is left are all
abbrev pub invariant-loop-bar : goal.invariant-loop-bar
invariant-loop-bar l = l.out ++ elements_text (bars_elements (drop l.bar-index l.bars)) ≡ l.fn.out ++ elements_text (bars_elements l.bars)
