use Rattle.std.proofs.Common.{◌≡◌, ◌+◌, ◌≤◌, drop, count_by}
use Rattle.xc_picture.specs.Scenes.{is_head}
use Rattle.xc_picture.proofs.reading.count_entries.Given as goal

-- what is counted and what is left are all
abbrev pub invariant-loop-line : goal.invariant-loop-line
invariant-loop-line l = (l.count + count_by is_head (drop l.line-index l.lines) ≡ count_by is_head l.lines) × (l.count ≤ l.line-index)
