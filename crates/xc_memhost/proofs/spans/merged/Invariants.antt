use Rattle.std.proofs.Common.{◌≡◌, ◌++◌, drop}
use Rattle.xc_memhost.proofs.Listed.{merge}
use Rattle.xc_memhost.proofs.spans.merged.Given as goal

-- the lines so far, and then what the last of them and the ones that are left become
abbrev pub invariant-loop-line : goal.invariant-loop-line
invariant-loop-line l = l.list.items ++ merge l.top (drop l.line-index l.rest) ≡ merge l.initial.top l.rest
