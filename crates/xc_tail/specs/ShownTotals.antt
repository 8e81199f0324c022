-- What is counted of an entry as its text shows it.
use Rattle.std.specs.Prelude.{ℕ, ◌+◌, Bool, sum_by}
use Rattle.xc_data.specs.Faults.{is_commit, end_faults, entry_faults}
use Rattle.xc_data.specs.declared.undo.UndoEnd.{UndoEnd}
use Rattle.xc_lines.specs.declared.shown.UndoKind.{UndoKind}
use Rattle.xc_shown.specs.declared.shown.Shown.{Shown}

-- whether it is a commit
abbrev pub is_committed_shown : Shown → Bool
is_committed_shown shown = is_commit shown.entry.outcome

-- the faults that a record's compensation met
abbrev pub end_faults_shown : UndoKind × UndoEnd → ℕ
end_faults_shown (kind, end) = end_faults end

-- the faults of the entry without its records, and of these
abbrev pub faults_shown : Shown → ℕ
faults_shown shown = entry_faults shown.entry + sum_by end_faults_shown shown.records
