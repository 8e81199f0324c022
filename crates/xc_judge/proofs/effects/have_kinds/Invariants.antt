use Rattle.std.proofs.Common.{◌≡◌, length, map}
use Rattle.xc_shown.specs.Shown.{record_shown}
use Rattle.xc_judge.specs.Traced.{ends_of, shown_ends}
use Rattle.xc_judge.proofs.effects.have_kinds.Given as goal

-- what is left decides
abbrev pub invariant-loop-records : goal.invariant-loop-records
invariant-loop-records l =
    record {
      ends : ends_of l.records ≡ shown_ends l.shown;
      to : map record_shown l.initial.records ≡ l.initial.shown → map record_shown l.records ≡ l.shown;
      from : map record_shown l.records ≡ l.shown → map record_shown l.initial.records ≡ l.initial.shown;
    }

abbrev pub decreases-loop-records : goal.decreases-loop-records
decreases-loop-records l = length l.records
