use Rattle.std.proofs.Common.{◌≡◌, ◌+◌, ◌*◌, ◌≤◌, ◌^◌, drop, sum_by}
use Rattle.xc_data.specs.Faults.{reply_faults}
use Rattle.xc_print.proofs.totals.sum_told.Given as goal

-- what is counted and what is left are all, and each one counted is below a bound
abbrev pub invariant-loop-reply : goal.invariant-loop-reply
invariant-loop-reply l = (l.faults + sum_by reply_faults (drop l.reply-index l.replies) ≡ sum_by reply_faults l.replies)
    × (l.faults ≤ l.reply-index * 2 ^ 32)
