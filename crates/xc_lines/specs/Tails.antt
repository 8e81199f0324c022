-- What stands in the lines of compensations, effects and ends, read.
use Rattle.std.specs.Prelude.{ℕ, ◌^◌, ◌++◌, List, codes, Some, None}
use Rattle.std.specs.Fmt.{decimal}
use Rattle.xc_data.specs.declared.undo.UndoEnd.{UndoEnd}
use Rattle.xc_data.specs.declared.undo.UndoEnd.TheVariants as undo_end
use Rattle.xc_data.specs.declared.entry.KeptItem.{KeptItem}
use Rattle.xc_data.specs.declared.entry.KeptItem.TheVariants as item
use Rattle.xc_print.specs.Bytes.{bytes_text}
use Rattle.xc_print.specs.Objects.{num_text}
use Rattle.xc_print.specs.Records.{overwrite_text, tail_text, made_text, moved_text}
use Rattle.xc_lines.specs.declared.shown.UndoKind.{UndoKind}
use Rattle.xc_lines.specs.declared.shown.UndoKind.TheVariants as kind
use Rattle.xc_lines.specs.declared.shown.EffectShown.{EffectShown}
use Rattle.xc_lines.specs.declared.shown.EffectShown.TheVariants as standing
use Rattle.xc_lines.specs.declared.shown.JobShown.{JobShown}
use Rattle.xc_lines.specs.declared.shown.JobShown.TheVariants as ended
use Rattle.xc_lines.specs.Parts.{◌>>=◌, Read, past, read_behind, mapped, says, number_at, below_at, name_at, bytes_at, num_at}

-- ---- compensations
-- what a record is of
unfoldable pub kind_at : List ℕ → Read UndoKind
kind_at bytes =
    read_behind (past (codes "bytes") bytes) (says kind.Bytes)
    (read_behind (past (codes "tail") bytes) (says kind.Tail)
    (read_behind (past (codes "made") bytes) (says kind.Made)
    (read_behind (past (codes "moved") bytes) (says kind.Moved)
    (read_behind (past (codes "pipe") bytes) (says kind.Pipe)
    (read_behind (past (codes "pair") bytes) (says kind.Pair) None)))))

-- done after so many faults
unfoldable pub undone_at : List ℕ → Read UndoEnd
undone_at bytes = mapped (λ faults. undo_end.Undone faults) (below_at (2 ^ 32) bytes)

-- given up with so many bytes restored, after so many faults
unfoldable pub failed_at : List ℕ → Read UndoEnd
failed_at bytes = do
  done ← below_at (2 ^ 32) bytes
  rest ← past (codes " faults ") done.1
  faults ← below_at (2 ^ 32) rest
  Some (undo_end.Failed done.0 faults.0, faults.1)

-- blocked by the record of this number
unfoldable pub blocked_at : List ℕ → Read UndoEnd
blocked_at bytes = mapped (λ by. undo_end.Blocked by) (below_at (2 ^ 32) bytes)

-- how a compensation ended
unfoldable pub undo_end_at : List ℕ → Read UndoEnd
undo_end_at bytes =
    read_behind (past (codes "done faults ") bytes) undone_at
    (read_behind (past (codes "failed restored ") bytes) failed_at
    (read_behind (past (codes "blocked by ") bytes) blocked_at None))

-- what a record is of, as it is printed
abbrev pub kind_name : UndoKind → List ℕ
kind_name kind.Bytes = codes "bytes"
kind_name kind.Tail = codes "tail"
kind_name kind.Made = codes "made"
kind_name kind.Moved = codes "moved"
kind_name kind.Pipe = codes "pipe"
kind_name kind.Pair = codes "pair"

-- ---- effects that stand
-- bytes of an overwrite
unfoldable pub overwrite_stands_at : List ℕ → Read EffectShown
overwrite_stands_at text = do
  file ← num_at text
  rest ← past (codes " at ") file.1
  at ← number_at rest
  rest ← past (codes " ") at.1
  bytes ← bytes_at rest
  Some (standing.Bytes file.0 at.0 bytes.0, bytes.1)

-- appended bytes
unfoldable pub tail_stands_at : List ℕ → Read EffectShown
tail_stands_at text = do
  file ← num_at text
  rest ← past (codes " from ") file.1
  from ← below_at (2 ^ 32) rest
  rest ← past (codes " ") from.1
  bytes ← bytes_at rest
  Some (standing.Tail file.0 from.0 bytes.0, bytes.1)

-- a new name and its file
unfoldable pub made_stands_at : List ℕ → Read EffectShown
made_stands_at bytes = do
  name ← name_at bytes
  rest ← past (codes " file ") name.1
  num ← num_at rest
  Some (standing.Made name.0 num.0, num.1)

-- a name before and now
unfoldable pub moved_stands_at : List ℕ → Read EffectShown
moved_stands_at bytes = do
  from ← name_at bytes
  rest ← past (codes " ") from.1
  to ← name_at rest
  Some (standing.Moved from.0 to.0, to.1)

-- a new pipe
unfoldable pub pipe_stands_at : List ℕ → Read EffectShown
pipe_stands_at bytes = mapped (λ num. standing.Pipe num) (num_at bytes)

-- a new pair
unfoldable pub pair_stands_at : List ℕ → Read EffectShown
pair_stands_at bytes = mapped (λ num. standing.Pair num) (num_at bytes)

-- an effect that stands
unfoldable pub standing_at : List ℕ → Read EffectShown
standing_at bytes =
    read_behind (past (codes "bytes file ") bytes) overwrite_stands_at
    (read_behind (past (codes "tail file ") bytes) tail_stands_at
    (read_behind (past (codes "made ") bytes) made_stands_at
    (read_behind (past (codes "moved ") bytes) moved_stands_at
    (read_behind (past (codes "pipe ") bytes) pipe_stands_at
    (read_behind (past (codes "pair ") bytes) pair_stands_at None)))))

-- an effect as it is printed
abbrev pub standing_text : EffectShown → List ℕ
standing_text (standing.Bytes file at bytes) = overwrite_text file at bytes
standing_text (standing.Tail file from bytes) = tail_text file from bytes
standing_text (standing.Made name num) = made_text name num
standing_text (standing.Moved from to) = moved_text from to
standing_text (standing.Pipe num) = codes "pipe " ++ num_text num
standing_text (standing.Pair num) = codes "pair " ++ num_text num

-- ---- ends of jobs
-- how a job ended
unfoldable pub job_end_at : List ℕ → Read JobShown
job_end_at bytes =
    read_behind (past (codes "done") bytes) (says ended.Done)
    (read_behind (past (codes "gave up") bytes) (says ended.GaveUp)
    (read_behind (past (codes "journal full") bytes) (says ended.JournalFull)
    (read_behind (past (codes "no memory") bytes) (says ended.NoMemory) None)))

-- how a job ended, as it is printed
abbrev pub job_end_name : JobShown → List ℕ
job_end_name ended.Done = codes "done"
job_end_name ended.GaveUp = codes "gave up"
job_end_name ended.JournalFull = codes "journal full"
job_end_name ended.NoMemory = codes "no memory"

-- ---- kept data
-- bytes of a pipe
unfoldable pub kept_pipe_at : List ℕ → Read KeptItem
kept_pipe_at text = do
  pipe ← num_at text
  rest ← past (codes " ") pipe.1
  bytes ← bytes_at rest
  Some (item.Bytes pipe.0 bytes.0, bytes.1)

-- a message for a side of a pair
unfoldable pub kept_pair_at : List ℕ → Read KeptItem
kept_pair_at text = do
  pair ← num_at text
  rest ← past (codes " side ") pair.1
  side ← below_at (2 ^ 8) rest
  rest ← past (codes " ") side.1
  bytes ← bytes_at rest
  Some (item.Message pair.0 side.0 bytes.0, bytes.1)

-- kept data
unfoldable pub kept_at : List ℕ → Read KeptItem
kept_at bytes =
    read_behind (past (codes "pipe ") bytes) kept_pipe_at
    (read_behind (past (codes "pair ") bytes) kept_pair_at None)

-- kept data as they are printed, behind the line's first word
abbrev pub kept_text : KeptItem → List ℕ
kept_text (item.Bytes pipe bytes) = codes "pipe " ++ num_text pipe ++ codes " " ++ bytes_text bytes
kept_text (item.Message pair side bytes) = codes "pair " ++ num_text pair ++ codes " side " ++ decimal side ++ codes " " ++ bytes_text bytes
