use Rattle.std.proofs.Common.{◌≡◌, ◌+◌, ◌*◌, ◌≤◌, ◌^◌, drop, sum_by}
use Rattle.xc_print.specs.Totals.{entry_remains}
use Rattle.xc_print.proofs.totals.remaining_effects.Given as goal

-- what is counted and what is left are all, and each one counted is below a bound
abbrev pub invariant-loop-entry : goal.invariant-loop-entry
invariant-loop-entry l = (l.remains + sum_by entry_remains (drop l.entry-index l.journal) ≡ sum_by entry_remains l.journal)
    × (l.remains ≤ l.entry-index * 2 ^ 64)
