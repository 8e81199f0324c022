use Rattle.std.proofs.Common.{◌≡◌, ◌++◌, replicate}
use Rattle.xc_judge.proofs.handles.push_copies.Given as goal

abbrev pub invariant-loop : goal.invariant-loop
invariant-loop l = l.handles.items ≡ l.fn.handles.items ++ replicate l.counter l.places
