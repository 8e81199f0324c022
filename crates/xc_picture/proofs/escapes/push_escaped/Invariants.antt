use Rattle.std.proofs.Common.{◌≡◌, ◌++◌, drop}
use Rattle.xc_picture.specs.Escapes.{svg_escaped}
use Rattle.xc_picture.proofs.escapes.push_escaped.Given as goal

-- what is printed and what is left are all
abbrev pub invariant-loop-b : goal.invariant-loop-b
invariant-loop-b l = l.out ++ svg_escaped (drop l.b-index l.bytes) ≡ l.fn.out ++ svg_escaped l.bytes
