-- Replies and the ends of late calls, read.
use Rattle.std.specs.Prelude.{ℕ, ◌^◌, List, codes, Some, None}
use Rattle.xc_data.specs.declared.call.Reply.{Reply}
use Rattle.xc_data.specs.declared.call.Reply.TheVariants as reply
use Rattle.xc_data.specs.declared.call.LateEnd.{LateEnd}
use Rattle.xc_data.specs.declared.call.LateEnd.TheVariants as late_end
use Rattle.xc_tokens.specs.Quoted.{literal_of}
use Rattle.xc_lines.specs.Parts.{◌>>=◌, Read, past, read_behind, mapped, says, number_at, below_at, handle_at, handle_from}

-- ---- replies
-- bytes behind their quote
unfoldable pub got_from : List ℕ → Read Reply
got_from text = do
  bytes ← literal_of text
  Some (reply.Got bytes.0, bytes.1)

-- a way back with its faults
unfoldable pub undone_reply_at : List ℕ → Read Reply
undone_reply_at bytes = do
  n ← below_at (2 ^ 32) bytes
  Some (reply.Undone n.0, n.1)

-- how many bytes a failed call did
unfoldable pub fault_at : List ℕ → Read Reply
fault_at bytes = do
  n ← below_at (2 ^ 32) bytes
  Some (reply.Fault n.0, n.1)

-- one handle or two, behind the first `h`
unfoldable pub made_from : List ℕ → Read Reply
made_from bytes = do
  h ← handle_from bytes
  read_behind (past (codes " ") h.1) (λ rest. handle_at rest >>= λ g. Some (reply.MadePair h.0 g.0, g.1)) (Some (reply.Made h.0, h.1))

-- a number that was replied
unfoldable pub count_at : List ℕ → Read Reply
count_at bytes = do
  n ← number_at bytes
  Some (reply.Number n.0, n.1)

-- a call that was refused, or a number
unfoldable pub refused_reply_at : List ℕ → Read Reply
refused_reply_at bytes =
    read_behind (past (codes "no name") bytes) (says reply.NoName)
    (read_behind (past (codes "exists") bytes) (says reply.Exists)
    (read_behind (past (codes "bad handle") bytes) (says reply.BadHandle)
    (read_behind (past (codes "past end") bytes) (says reply.PastEnd)
    (read_behind (past (codes "too big") bytes) (says reply.TooBig)
    (read_behind (past (codes "too much") bytes) (says reply.TooMuch)
    (read_behind (past (codes "bad word") bytes) (says reply.BadWord)
    (count_at bytes)))))))

-- a reply without a value, or a number
unfoldable pub plain_at : List ℕ → Read Reply
plain_at bytes =
    read_behind (past (codes "done") bytes) (says reply.Done)
    (read_behind (past (codes "end") bytes) (says reply.End)
    (read_behind (past (codes "empty") bytes) (says reply.Empty)
    (read_behind (past (codes "late") bytes) (says reply.Late)
    (refused_reply_at bytes))))

-- a reply
unfoldable pub reply_at : List ℕ → Read Reply
reply_at bytes =
    read_behind (past (codes "fault ") bytes) fault_at
    (read_behind (past (codes "\"") bytes) got_from
    (read_behind (past (codes "h") bytes) made_from
    (read_behind (past (codes "done faults ") bytes) undone_reply_at
    (plain_at bytes))))

-- ---- the ends of late calls
-- a pipe that was full after so many bytes
unfoldable pub full_at : List ℕ → Read LateEnd
full_at bytes = mapped (λ n. late_end.Full n) (below_at (2 ^ 32) bytes)

-- a fault after so many bytes
unfoldable pub late_fault_at : List ℕ → Read LateEnd
late_fault_at bytes = mapped (λ n. late_end.Fault n) (below_at (2 ^ 32) bytes)

-- want of memory after so many bytes
unfoldable pub no_memory_end_at : List ℕ → Read LateEnd
no_memory_end_at bytes = mapped (λ n. late_end.NoMemory n) (below_at (2 ^ 32) bytes)

-- the end of a late call
unfoldable pub late_end_at : List ℕ → Read LateEnd
late_end_at bytes =
    read_behind (past (codes "done") bytes) (says late_end.Done)
    (read_behind (past (codes "full ") bytes) full_at
    (read_behind (past (codes "shut") bytes) (says late_end.Shut)
    (read_behind (past (codes "no name") bytes) (says late_end.NoName)
    (read_behind (past (codes "no script") bytes) (says late_end.NoScript)
    (read_behind (past (codes "fault ") bytes) late_fault_at
    (read_behind (past (codes "no memory ") bytes) no_memory_end_at None))))))
