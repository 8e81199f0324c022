use Rattle.std.proofs.Common.{subst}
use Rattle.std.specs.List.{AllByRecursion}
use Rattle.xc_lines.specs.Ranges.{IsLateEndInRange}
use Rattle.xc_sheet.specs.EndRanges.{IsRecordInRange}
use Rattle.xc_ranges.proofs.Few.{few_lates, few_records}
use Rattle.xc_ranges.proofs.entries.outcome.Goals as goal

pub returns-in-Committed : goal.returns-in-Committed
returns-in-Committed c =
    few_lates c.args.outcome.now c.in-Committed.late c.in-Committed.is c.requires
    (subst (AllByRecursion IsLateEndInRange) c.as_slice.ensures c.late_ends.ensures)

pub returns-in-Aborted : goal.returns-in-Aborted
returns-in-Aborted c =
    few_records c.args.outcome.now c.in-Aborted.report c.in-Aborted.is c.requires
    (subst (AllByRecursion IsRecordInRange) c.as_slice-in-Aborted.ensures c.records.ensures)
