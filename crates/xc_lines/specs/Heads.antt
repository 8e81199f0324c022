-- The first line of an entry, read.
use Rattle.std.specs.Prelude.{ℕ, ◌^◌, ◌++◌, List, [], codes, Option, Some, None}
use Rattle.std.specs.Fmt.{decimal}
use Rattle.xc_data.specs.declared.entry.Cause.{Cause}
use Rattle.xc_data.specs.declared.entry.Cause.TheVariants as cause
use Rattle.xc_print.specs.Entries.{cause_text}
use Rattle.xc_lines.specs.Parts.{◌>>=◌, Read, past, read_behind, says, below_at, any_object_at}
use Rattle.xc_lines.specs.declared.heads.Head.{Head}

-- ---- why a transaction was aborted
-- an object, who holds it, and when
unfoldable pub conflict_at : List ℕ → Read Cause
conflict_at bytes = do
  object ← any_object_at bytes
  rest ← past (codes " holder t") object.1
  holder ← below_at (2 ^ 32) rest
  rest ← past (codes " at ") holder.1
  at ← below_at (2 ^ 32) rest
  Some (cause.Conflict object.0 holder.0 at.0, at.1)

-- an object, who wanted it, and when
unfoldable pub revoked_at : List ℕ → Read Cause
revoked_at bytes = do
  object ← any_object_at bytes
  rest ← past (codes " by t") object.1
  by ← below_at (2 ^ 32) rest
  rest ← past (codes " at ") by.1
  at ← below_at (2 ^ 32) rest
  Some (cause.Revoked object.0 by.0 at.0, at.1)

-- the record that stopped a way back
unfoldable pub stuck_at : List ℕ → Read Cause
stuck_at bytes = do
  failed ← below_at (2 ^ 32) bytes
  Some (cause.Stuck failed.0, failed.1)

-- want of memory
unfoldable pub no_memory_at : List ℕ → Read Cause
no_memory_at bytes = do
  rest ← past (codes "no memory") bytes
  Some (cause.NoMemory, rest)

-- a cause
unfoldable pub cause_at : List ℕ → Read Cause
cause_at bytes =
    read_behind (past (codes "asked") bytes) (says cause.Asked)
    (read_behind (past (codes "conflict ") bytes) conflict_at
    (read_behind (past (codes "revoked ") bytes) revoked_at
    (read_behind (past (codes "stuck undo ") bytes) stuck_at
    (no_memory_at bytes))))

-- ---- the line
-- the numbers of an entry, before its cause is known
unfoldable pub attempt_at : List ℕ → Read Head
attempt_at bytes = do
  rest ← past (codes " t") bytes
  tx ← below_at (2 ^ 32) rest
  rest ← past (codes " job ") tx.1
  job ← below_at (2 ^ 32) rest
  rest ← past (codes " rank ") job.1
  rank ← below_at (2 ^ 32) rest
  rest ← past (codes " began ") rank.1
  began ← below_at (2 ^ 32) rest
  Some (record { tx = tx.0; job = job.0; rank = rank.0; began = began.0; cause = None }, began.1)

-- a commit's line behind its first word
unfoldable pub commit_at : List ℕ → Read Head
commit_at bytes = do
  head ← attempt_at bytes
  rest ← past (codes "\n") head.1
  Some (head.0, rest)

-- an abort's line behind its first word
unfoldable pub abort_at : List ℕ → Read Head
abort_at bytes = do
  head ← attempt_at bytes
  rest ← past (codes " ") head.1
  cause ← cause_at rest
  rest ← past (codes "\n") cause.1
  Some (record head.0 { cause = Some cause.0 }, rest)

-- the first line of an entry
unfoldable pub head_at : List ℕ → Read Head
head_at bytes =
    read_behind (past (codes "commit") bytes) commit_at
    (read_behind (past (codes "abort") bytes) abort_at None)

-- ---- its text
-- the first word of an entry
abbrev pub word_of : Option Cause → List ℕ
word_of None = codes "commit"
word_of (Some cause) = codes "abort"

-- what an abort's first line ends with
abbrev pub cause_of : Option Cause → List ℕ
cause_of None = []
cause_of (Some cause) = codes " " ++ cause_text cause

-- the transaction, its job, its rank and its begin
abbrev pub numbers_text : Head → List ℕ
numbers_text head = codes " t" ++ decimal head.tx ++ codes " job " ++ decimal head.job
    ++ codes " rank " ++ decimal head.rank ++ codes " began " ++ decimal head.began

-- the first line of an entry
abbrev pub head_text : Head → List ℕ
head_text head = word_of head.cause ++ numbers_text head ++ cause_of head.cause ++ codes "\n"
