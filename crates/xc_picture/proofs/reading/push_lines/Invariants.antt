use Rattle.std.proofs.Common.{◌≡◌, ◌++◌, drop}
use Rattle.xc_picture.specs.Scenes.{texts_of}
use Rattle.xc_picture.proofs.reading.push_lines.Given as goal

-- what is printed and what is left are all
abbrev pub invariant-loop-line : goal.invariant-loop-line
invariant-loop-line l = l.out ++ texts_of (drop l.line-index l.lines) ≡ l.fn.out ++ texts_of l.lines
