-- A text parted from its last line on.
use Rattle.std.specs.Prelude.{List, [], ◌∷◌, ◌++◌, Option}
use Rattle.std.specs.declared.option.Option.TheVariants.{None, Some}
use Rattle.xc_data.specs.declared.call.LateEnd.{LateEnd}
use Rattle.xc_data.specs.declared.entry.Cause.{Cause}
use Rattle.xc_data.specs.declared.entry.Entry.{Entry}
use Rattle.xc_data.specs.declared.entry.Outcome.{Outcome}
use Rattle.xc_data.specs.declared.entry.Outcome.TheVariants.{Committed, Aborted}
use Rattle.xc_lines.specs.declared.heads.Head.{Head}
use Rattle.xc_sheet.specs.declared.lines.Line.{Line}
use Rattle.xc_sheet.specs.declared.lines.Line.TheVariants as line
use Rattle.xc_shown.specs.declared.gathered.Gathered.{Gathered}
use Rattle.xc_shown.specs.declared.shown.Shown.{Shown}

-- nothing is read yet
abbrev pub nothing_gathered : Gathered
nothing_gathered = record { calls = []; replies = []; late = []; records = []; effects = []; held = []; entries = []; tail = [] }

-- how an entry with this cause ended, or with none and these ends of late calls
abbrev pub outcome_with : Option Cause → List LateEnd → Outcome
outcome_with None late = Committed late
outcome_with (Some cause) late = Aborted (record { cause = cause; records = [] })

-- the entry with this first line, before lines that were read
abbrev pub entry_with : Head → Gathered → Entry
entry_with head g =
    record {
      tx = head.tx;
      job = head.job;
      rank = head.rank;
      began = head.began;
      calls = g.calls;
      replies = g.replies;
      held = g.held;
      outcome = outcome_with head.cause g.late;
    }

-- what its lines show
abbrev pub shown_with : Head → Gathered → Shown
shown_with head g = record { entry = entry_with head g; records = g.records; effects = g.effects }

-- a line more, before those that were read
abbrev pub with_line : Line → Gathered → Gathered
with_line (line.Head head) g = record nothing_gathered { entries = shown_with head g ∷ g.entries; tail = g.tail }
with_line (line.Call call reply) g = record g { calls = call ∷ g.calls; replies = reply ∷ g.replies }
with_line (line.Late number end) g = record g { late = end ∷ g.late }
with_line (line.Undo number kind end) g = record g { records = g.records ++ (kind, end) ∷ [] }
with_line (line.Remains effect) g = record g { effects = effect ∷ g.effects }
with_line (line.Held claims) g = record g { held = claims }
with_line (line.Job number block end) g = record g { tail = line.Job number block end ∷ g.tail }
with_line (line.Word at value) g = record g { tail = line.Word at value ∷ g.tail }
with_line (line.Kept item) g = record g { tail = line.Kept item ∷ g.tail }
with_line (line.Total committed aborted faults remains) g = record g { tail = line.Total committed aborted faults remains ∷ g.tail }

-- lines more
unfoldable pub with_lines : List Line → Gathered → Gathered
with_lines [] g = g
with_lines (l ∷ lines) g = with_line l (with_lines lines g)
