use Rattle.std.proofs.Common.{◌≡◌, ◌++◌, drop}
use Rattle.std.specs.List.{filter}
use Rattle.xc_memhost.specs.Spans.{is_at_place}
use Rattle.xc_memhost.proofs.spans.lines_at.Given as goal

-- the lines so far, and then those of the ones that are left
abbrev pub invariant-loop-line : goal.invariant-loop-line
invariant-loop-line l = l.list.items ++ filter (is_at_place l.place) (drop l.line-index l.lines) ≡ filter (is_at_place l.place) l.lines
