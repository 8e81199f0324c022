-- The lines of a text, read; and as they are printed.
use Rattle.std.specs.Prelude.{ℕ, ◌^◌, ◌++◌, List, [], ◌∷◌, codes, Some}
use Rattle.std.specs.Fmt.{decimal}
use Rattle.xc_print.specs.Entries.{call_line, late_line}
use Rattle.xc_print.specs.Kept.{kept_line}
use Rattle.xc_print.specs.Objects.{held_line}
use Rattle.xc_print.specs.Records.{undo_end_text}
use Rattle.xc_sheet.specs.declared.lines.Line.{Line}
use Rattle.xc_sheet.specs.declared.lines.Line.TheVariants as line
use Rattle.xc_lines.specs.Calls.{call_at}
use Rattle.xc_lines.specs.Heads.{head_at, head_text}
use Rattle.xc_lines.specs.Held.{claim_at, behind_claims, further_at}
use Rattle.xc_lines.specs.Parts.{◌>>=◌, Read, past, read_behind, mapped, number_at, ident_at}
use Rattle.xc_lines.specs.Replies.{reply_at, late_end_at}
use Rattle.xc_lines.specs.Tails.{kind_at, kind_name, undo_end_at, standing_at, standing_text, job_end_at, job_end_name, kept_at}

-- ---- each behind its first word
-- the line of a late call
unfoldable pub late_line_at : List ℕ → Read Line
late_line_at bytes = do
  number ← number_at bytes
  rest ← past (codes " = ") number.1
  end ← late_end_at rest
  rest ← past (codes "\n") end.1
  Some (line.Late number.0 end.0, rest)

-- the line of a compensation
unfoldable pub undo_line_at : List ℕ → Read Line
undo_line_at bytes = do
  number ← number_at bytes
  rest ← past (codes " ") number.1
  kind ← kind_at rest
  rest ← past (codes " ") kind.1
  end ← undo_end_at rest
  rest ← past (codes "\n") end.1
  Some (line.Undo number.0 kind.0 end.0, rest)

-- the line of an effect that stands
unfoldable pub remains_line_at : List ℕ → Read Line
remains_line_at bytes = do
  effect ← standing_at bytes
  rest ← past (codes "\n") effect.1
  Some (line.Remains effect.0, rest)

-- the line of a call and its reply
unfoldable pub call_line_at : List ℕ → Read Line
call_line_at bytes = do
  call ← call_at bytes
  rest ← past (codes " = ") call.1
  reply ← reply_at rest
  rest ← past (codes "\n") reply.1
  Some (line.Call call.0 reply.0, rest)

-- the line of a job
unfoldable pub job_line_at : List ℕ → Read Line
job_line_at bytes = do
  number ← number_at bytes
  rest ← past (codes " ") number.1
  block ← ident_at rest
  rest ← past (codes " ") block.1
  end ← job_end_at rest
  rest ← past (codes "\n") end.1
  Some (line.Job number.0 block.0 end.0, rest)

-- the line of a word
unfoldable pub word_line_at : List ℕ → Read Line
word_line_at bytes = do
  at ← number_at bytes
  rest ← past (codes " ") at.1
  value ← number_at rest
  rest ← past (codes "\n") value.1
  Some (line.Word at.0 value.0, rest)

-- the line of kept data
unfoldable pub kept_line_at : List ℕ → Read Line
kept_line_at bytes = do
  kept ← kept_at bytes
  rest ← past (codes "\n") kept.1
  Some (line.Kept kept.0, rest)

-- the last line
unfoldable pub total_line_at : List ℕ → Read Line
total_line_at bytes = do
  committed ← number_at bytes
  rest ← past (codes " committed, ") committed.1
  aborted ← number_at rest
  rest ← past (codes " aborted, ") aborted.1
  faults ← number_at rest
  rest ← past (codes " faults, ") faults.1
  remains ← number_at rest
  rest ← past (codes " remains\n") remains.1
  Some (line.Total committed.0 aborted.0 faults.0 remains.0, rest)

-- the line of the held objects
unfoldable pub held_line_at : List ℕ → Read Line
held_line_at bytes = do
  first ← claim_at bytes
  claims ← behind_claims (first.0 ∷ []) (further_at (2 ^ 26) first.1)
  rest ← past (codes "\n") claims.1
  Some (line.Held claims.0, rest)

-- ---- a line
-- a line of an entry behind its two spaces
unfoldable pub inner_line_at : List ℕ → Read Line
inner_line_at bytes =
    read_behind (past (codes "late ") bytes) late_line_at
    (read_behind (past (codes "undo ") bytes) undo_line_at
    (read_behind (past (codes "remains ") bytes) remains_line_at
    (read_behind (past (codes "held ") bytes) held_line_at
    (call_line_at bytes))))

-- a line
unfoldable pub line_at : List ℕ → Read Line
line_at bytes =
    read_behind (past (codes "  ") bytes) inner_line_at
    (read_behind (past (codes "job ") bytes) job_line_at
    (read_behind (past (codes "word ") bytes) word_line_at
    (read_behind (past (codes "kept ") bytes) kept_line_at
    (read_behind (past (codes "total ") bytes) total_line_at
    (mapped (λ head. line.Head head) (head_at bytes))))))

-- ---- its text
-- the last line as it is printed
abbrev pub total_text : ℕ → ℕ → ℕ → ℕ → List ℕ
total_text committed aborted faults remains = codes "total " ++ decimal committed ++ codes " committed, "
    ++ decimal aborted ++ codes " aborted, " ++ decimal faults ++ codes " faults, " ++ decimal remains ++ codes " remains\n"

-- a line as it is printed
abbrev pub line_text : Line → List ℕ
line_text (line.Head head) = head_text head
line_text (line.Call call reply) = call_line call reply
line_text (line.Late number end) = late_line number end
line_text (line.Undo number kind end) =
    codes "  undo " ++ decimal number ++ codes " " ++ kind_name kind ++ codes " " ++ undo_end_text end ++ codes "\n"
line_text (line.Remains effect) = codes "  remains " ++ standing_text effect ++ codes "\n"
line_text (line.Held claims) = held_line claims
line_text (line.Job number block end) =
    codes "job " ++ decimal number ++ codes " " ++ block ++ codes " " ++ job_end_name end ++ codes "\n"
line_text (line.Word at value) = codes "word " ++ decimal at ++ codes " " ++ decimal value ++ codes "\n"
line_text (line.Kept kept) = kept_line kept
line_text (line.Total committed aborted faults remains) = total_text committed aborted faults remains
