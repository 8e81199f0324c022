-- What the last line counts.
use Rattle.std.specs.Prelude.{ℕ, Bool, not, List, ◌++◌, codes, count_by, sum_by}
use Rattle.std.specs.Fmt.{decimal}
use Rattle.xc_data.specs.Faults.{is_commit, entry_faults}
use Rattle.xc_data.specs.declared.entry.Entry.{Entry}
use Rattle.xc_data.specs.declared.entry.Outcome.{Outcome}
use Rattle.xc_data.specs.declared.entry.Outcome.TheVariants.{Committed, Aborted}
use Rattle.xc_world.specs.Remains.{effect_remains}
use Rattle.xc_print.specs.declared.totals.Totals.{Totals}

-- whether an entry is a commit
abbrev pub is_committed : Entry → Bool
is_committed entry = is_commit entry.outcome

-- whether an entry is an abort
abbrev pub is_aborted : Entry → Bool
is_aborted entry = not (is_commit entry.outcome)

-- how many effects stand after an outcome
abbrev pub outcome_remains : Outcome → ℕ
outcome_remains (Committed late) = 0
outcome_remains (Aborted report) = count_by effect_remains report.records

-- how many effects of an entry stand
abbrev pub entry_remains : Entry → ℕ
entry_remains entry = outcome_remains entry.outcome

-- the totals of a journal
abbrev pub totals_of : List Entry → Totals
totals_of journal = record {
  committed = count_by is_committed journal;
  aborted = count_by is_aborted journal;
  faults = sum_by entry_faults journal;
  remains = sum_by entry_remains journal;
}

-- the last line of a text
abbrev pub totals_line : Totals → List ℕ
totals_line totals = codes "total " ++ decimal totals.committed ++ codes " committed, "
    ++ decimal totals.aborted ++ codes " aborted, "
    ++ decimal totals.faults ++ codes " faults, "
    ++ decimal totals.remains ++ codes " remains\n"
