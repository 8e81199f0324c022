-- What a picture shows of the lines of a journal.
use Rattle.std.specs.Prelude.{◌≡◌, ◌≤◌, ℕ, ◌+◌, ◌-◌, Bool, true, false, List, [], ◌∷◌, ◌++◌, codes, take, drop, min, max, nat_le, nat_lt}
use Rattle.std.specs.Prelude.{Option, None, Some, is_none, count_by, if◌then◌else◌}
use Rattle.std.specs.List.{list_any, prefix_len}
use Rattle.xc_data.specs.Faults.{reply_faults, is_fault_end, end_faults}
use Rattle.xc_data.specs.declared.entry.Cause.{Cause}
use Rattle.xc_data.specs.declared.entry.Cause.TheVariants as cause
use Rattle.xc_lines.specs.Tails.{job_end_name}
use Rattle.xc_lines.specs.declared.heads.Head.{Head}
use Rattle.xc_sheet.specs.Lines.{line_text}
use Rattle.xc_sheet.specs.declared.ending.Ending.{Ending}
use Rattle.xc_sheet.specs.declared.ending.Ending.TheVariants.{Whole, Broken}
use Rattle.xc_sheet.specs.declared.lines.Line.{Line}
use Rattle.xc_sheet.specs.declared.lines.Line.TheVariants as line
use Rattle.xc_picture.specs.declared.scene.Bar.{Bar}
use Rattle.xc_picture.specs.declared.scene.LaneName.{LaneName}
use Rattle.xc_picture.specs.declared.scene.Scene.{Scene}

-- ---- the lines of an entry
-- what the first line of an entry tells
abbrev pub head_in : Line → Option Head
head_in (line.Head head) = Some head
head_in _ = None

-- whether a line begins an entry
abbrev pub is_head : Line → Bool
is_head (line.Head head) = true
is_head _ = false

-- whether a line is one of an entry, behind its first
abbrev pub is_inner : Line → Bool
is_inner (line.Call call reply) = true
is_inner (line.Late number end) = true
is_inner (line.Undo number kind end) = true
is_inner (line.Remains effect) = true
is_inner (line.Held claims) = true
is_inner _ = false

-- whether a line tells how a late call ended
abbrev pub is_late_line : Line → Bool
is_late_line (line.Late number end) = true
is_late_line _ = false

-- whether a line tells of a fault
abbrev pub tells_fault : Line → Bool
tells_fault (line.Call call reply) = nat_lt 0 (reply_faults reply)
tells_fault (line.Late number end) = is_fault_end end
tells_fault (line.Undo number kind end) = nat_lt 0 (end_faults end)
tells_fault _ = false

-- whether a line tells what remains of an abort
abbrev pub is_remains : Line → Bool
is_remains (line.Remains effect) = true
is_remains _ = false

-- the first line, and those behind it that are of the same entry
abbrev pub own_lines : List Line → List Line
own_lines lines = take (1 + prefix_len is_inner (drop 1 lines)) lines

-- the text of lines
abbrev pub texts_of : List Line → List ℕ
texts_of [] = []
texts_of (l ∷ lines) = line_text l ++ texts_of lines

-- ---- bars
-- the transaction that an aborted one met: the holder in a conflict, the older one in a revocation
abbrev pub rival_of : Option Cause → Option ℕ
rival_of (Some (cause.Conflict object holder at)) = Some holder
rival_of (Some (cause.Revoked object by at)) = Some by
rival_of _ = None

-- the bar of the entry of this number, by its first line and all its lines
abbrev pub bar_of : ℕ → Head → List Line → Bar
bar_of number head lines = record {
  tx = head.tx;
  job = head.job;
  from = min head.began number;
  to = number;
  committed = is_none head.cause;
  rival = rival_of head.cause;
  late = list_any is_late_line lines;
  faults = list_any tells_fault lines;
  remains = list_any is_remains lines;
  tip = texts_of lines;
}

-- the bar of an entry before those that follow it, up to entry number 2,000; where no entry begins, those that follow
abbrev pub bars_at : ℕ → Option Head → List Line → List Bar → List Bar → List Bar
bars_at number None lines others further = others
bars_at number (Some head) lines others further = if nat_le number 2000 then bar_of number head lines ∷ further else []

-- the bars of the entries in lines, the first of which has this number
abbrev pub bars_from : ℕ → List Line → List Bar
bars_from number [] = []
bars_from number (l ∷ lines) =
    bars_at number (head_in l) (own_lines (l ∷ lines)) (bars_from number lines) (bars_from (number + 1) lines)

-- bars stand in the order of their entries, from this number on, and none begins behind its end
abbrev pub StandInOrder : ℕ → List Bar → Type 0
StandInOrder number [] = Unit {0}
StandInOrder number (bar ∷ bars) = (bar.to ≡ number) × (bar.from ≤ bar.to) × StandInOrder (number + 1) bars

-- ---- lanes
-- the lane of a job: its number, or 2,001 for all jobs past 2,000
abbrev pub lane_of : ℕ → ℕ
lane_of job = min job 2001

-- the lane that a line speaks of, 0 if none
abbrev pub lane_in : Line → ℕ
lane_in (line.Head head) = lane_of head.job
lane_in (line.Job number block end) = lane_of number
lane_in _ = 0

-- the last lane that lines speak of
abbrev pub last_lane : List Line → ℕ
last_lane [] = 0
last_lane (l ∷ lines) = max (lane_in l) (last_lane lines)

-- the name of the job that a line tells of, if its number is at most 2,000, and how it ended
abbrev pub lane_name_in : Line → List LaneName
lane_name_in (line.Job number block end) =
    if nat_le number 2000 then record { lane = number; name = block ++ codes " " ++ job_end_name end } ∷ [] else []
lane_name_in _ = []

-- the names that lines tell
abbrev pub lane_names : List Line → List LaneName
lane_names [] = []
lane_names (l ∷ lines) = lane_name_in l ++ lane_names lines

-- ---- the whole
-- the number of the line at which a text broke
abbrev pub break_of : Ending → Option ℕ
break_of Whole = None
break_of (Broken line) = Some line

-- what is drawn of the lines that were read of a text, and of how that ended
abbrev pub drawn_scene : List Line → Ending → Scene
drawn_scene lines ending = record {
  bars = bars_from 1 lines;
  names = lane_names lines;
  lanes = last_lane lines;
  left_out = count_by is_head lines - 2000;
  break_at = break_of ending;
}
