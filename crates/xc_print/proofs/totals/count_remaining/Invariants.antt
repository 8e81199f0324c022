use Rattle.std.proofs.Common.{◌≡◌, ◌+◌, ◌≤◌, drop, count_by}
use Rattle.xc_world.specs.Remains.{effect_remains}
use Rattle.xc_print.proofs.totals.count_remaining.Given as goal

-- what is counted and what is left are all
abbrev pub invariant-loop-ended : goal.invariant-loop-ended
invariant-loop-ended l = (l.count + count_by effect_remains (drop l.ended-index l.records) ≡ count_by effect_remains l.records)
    × (l.count ≤ l.ended-index)
