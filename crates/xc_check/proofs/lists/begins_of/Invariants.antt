use Rattle.std.proofs.Common.{◌≡◌, take}
use Rattle.xc_check.specs.Fronts.{begins_shown}
use Rattle.xc_check.proofs.lists.begins_of.Given as goal

-- those of the entries so far
abbrev pub invariant-loop-shown : goal.invariant-loop-shown
invariant-loop-shown l = l.begins.items ≡ begins_shown (take l.shown-index l.entries)
