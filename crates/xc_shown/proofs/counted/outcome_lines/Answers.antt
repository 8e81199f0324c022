use Rattle.std.proofs.Common.{◌+◌, length, ap, ◌∙◌}
use Rattle.xc_shown.proofs.Counts.{commit_count, abort_count}
use Rattle.xc_shown.proofs.counted.outcome_lines.Goals as goal

pub returns-in-Committed-clause-count : goal.returns-in-Committed-clause-count
returns-in-Committed-clause-count c =
    ap length c.as_slice.ensures ∙ commit_count c.args.shown.now.entry.outcome c.in-Committed.late c.args.shown.now c.in-Committed.is

pub returns-in-Aborted-clause-count : goal.returns-in-Aborted-clause-count
returns-in-Aborted-clause-count c =
    (λ i. length (c.as_slice-in-Aborted.ensures i) + length (c.as_slice-in-Aborted-2.ensures i))
    ∙ abort_count c.args.shown.now.entry.outcome c.in-Aborted.field-0 c.args.shown.now c.in-Aborted.is
