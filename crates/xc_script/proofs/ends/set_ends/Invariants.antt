use Rattle.std.proofs.Common.{◌≡◌, false, length}
use Rattle.xc_script.specs.Slots.{kept_behind, with_ends}
use Rattle.xc_script.proofs.ends.set_ends.Given as goal

-- what is left decides
abbrev pub invariant-loop-ends : goal.invariant-loop-ends
invariant-loop-ends l =
    with_ends l.variables (kept_behind l.dropped l.calls l.replies) l.ends
    ≡ with_ends l.initial.variables (kept_behind false l.initial.calls l.initial.replies) l.initial.ends

abbrev pub decreases-loop-ends : goal.decreases-loop-ends
decreases-loop-ends l = length l.calls
