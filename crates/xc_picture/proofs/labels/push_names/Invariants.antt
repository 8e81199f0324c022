use Rattle.std.proofs.Common.{◌≡◌, ◌++◌, drop}
use Rattle.xc_picture.specs.Drawn.{name_labels}
use Rattle.xc_picture.specs.Elements.{elements_text}
use Rattle.xc_picture.proofs.labels.push_names.Given as goal

-- what is printed and what is left are all
abbrev pub invariant-loop-named : goal.invariant-loop-named
invariant-loop-named l = l.out ++ elements_text (name_labels (drop l.named-index l.names)) ≡ l.fn.out ++ elements_text (name_labels l.names)
