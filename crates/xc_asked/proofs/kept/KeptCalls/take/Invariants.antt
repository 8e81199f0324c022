use Rattle.std.proofs.Common.{◌≡◌, length}
use Rattle.xc_script.specs.Slots.{kept_behind}
use Rattle.xc_asked.proofs.kept.KeptCalls.take.Given as goal

-- none was passed
abbrev pub invariant-loop-self : goal.invariant-loop-self
invariant-loop-self l = kept_behind l.self-inside.dropped l.self-inside.calls.now l.self-inside.replies.now ≡ l.fn.self

abbrev pub decreases-loop-self : goal.decreases-loop-self
decreases-loop-self l = length l.self-inside.calls.now
