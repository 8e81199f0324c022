use Rattle.std.proofs.Common.{◌^◌, ◌≤◌, length}
use Rattle.std.specs.List.{AllByRecursion}
use Rattle.xc_print.specs.Entries.{journal_text}
use Rattle.xc_sheet.specs.EndRanges.{IsEntryInRange}
use Rattle.xc_ranges.proofs.entries.entries.Given as goal

-- where what is left is within its ranges, all is
abbrev pub invariant-loop-rest : goal.invariant-loop-rest
invariant-loop-rest l =
    record {
      short : length (journal_text l.rest) ≤ 2 ^ 26;
      all : AllByRecursion IsEntryInRange l.rest → AllByRecursion IsEntryInRange l.all;
    }

abbrev pub decreases-loop-rest : goal.decreases-loop-rest
decreases-loop-rest l = length l.rest
