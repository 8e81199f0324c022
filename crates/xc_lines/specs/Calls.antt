-- Calls, read.
use Rattle.std.specs.Prelude.{ℕ, List, codes, Option, Some, None}
use Rattle.xc_data.specs.declared.call.Call.{Call}
use Rattle.xc_data.specs.declared.call.Call.TheVariants as call
use Rattle.xc_lines.specs.Parts.{◌>>=◌, Read, past, read_behind, mapped, says, number_at, name_at, ident_at, bytes_at, handle_at}

-- ---- the values of calls
-- two numbers
unfoldable pub two_numbers_at : List ℕ → Read (ℕ × ℕ)
two_numbers_at bytes = do
  a ← number_at bytes
  rest ← past (codes " ") a.1
  b ← number_at rest
  Some ((a.0, b.0), b.1)

-- two names
unfoldable pub two_names_at : List ℕ → Read (List ℕ × List ℕ)
two_names_at bytes = do
  a ← name_at bytes
  rest ← past (codes " ") a.1
  b ← name_at rest
  Some ((a.0, b.0), b.1)

-- a handle and a number
unfoldable pub handle_number_at : List ℕ → Read (ℕ × ℕ)
handle_number_at bytes = do
  h ← handle_at bytes
  rest ← past (codes " ") h.1
  n ← number_at rest
  Some ((h.0, n.0), n.1)

-- a handle and bytes
unfoldable pub handle_bytes_at : List ℕ → Read (ℕ × List ℕ)
handle_bytes_at text = do
  h ← handle_at text
  rest ← past (codes " ") h.1
  bytes ← bytes_at rest
  Some ((h.0, bytes.0), bytes.1)

-- the slot that a late call may end with
unfoldable pub slot_at : List ℕ → Read (Option (List ℕ))
slot_at bytes = read_behind (past (codes " slot ") bytes) (λ rest. ident_at rest >>= λ s. Some (Some s.0, s.1)) (Some (None, bytes))

-- a name, and a slot where there is one
unfoldable pub name_slot_at : List ℕ → Read (List ℕ × Option (List ℕ))
name_slot_at bytes = do
  name ← name_at bytes
  slot ← slot_at name.1
  Some ((name.0, slot.0), slot.1)

-- the name of a block, and a slot where there is one
unfoldable pub ident_slot_at : List ℕ → Read (List ℕ × Option (List ℕ))
ident_slot_at bytes = do
  ident ← ident_at bytes
  slot ← slot_at ident.1
  Some ((ident.0, slot.0), slot.1)

-- a handle, and a slot where there is one
unfoldable pub handle_slot_at : List ℕ → Read (ℕ × Option (List ℕ))
handle_slot_at bytes = do
  h ← handle_at bytes
  slot ← slot_at h.1
  Some ((h.0, slot.0), slot.1)

-- a handle and bytes, and a slot where there is one
unfoldable pub handle_bytes_slot_at : List ℕ → Read (ℕ × List ℕ × Option (List ℕ))
handle_bytes_slot_at text = do
  p ← handle_bytes_at text
  slot ← slot_at p.1
  Some ((p.0.0, p.0.1, slot.0), slot.1)

-- ---- each call, behind its word
-- behind `load`
unfoldable pub load_at : List ℕ → Read Call
load_at bytes = mapped (λ at. call.Load at) (number_at bytes)

-- behind `store`
unfoldable pub store_at : List ℕ → Read Call
store_at bytes = mapped (λ p. call.Store p.0 p.1) (two_numbers_at bytes)

-- behind `x_open`
unfoldable pub open_call_at : List ℕ → Read Call
open_call_at bytes = mapped (λ name. call.XOpen name) (name_at bytes)

-- behind `x_create`
unfoldable pub create_at : List ℕ → Read Call
create_at bytes = mapped (λ name. call.XCreate name) (name_at bytes)

-- behind `x_read`
unfoldable pub read_call_at : List ℕ → Read Call
read_call_at bytes = mapped (λ p. call.XRead p.0 p.1) (handle_number_at bytes)

-- behind `x_write_ovr`
unfoldable pub overwrite_call_at : List ℕ → Read Call
overwrite_call_at bytes = mapped (λ p. call.XWriteOvr p.0 p.1) (handle_bytes_at bytes)

-- behind `x_write_seq`
unfoldable pub append_call_at : List ℕ → Read Call
append_call_at bytes = mapped (λ p. call.XWriteSeq p.0 p.1) (handle_bytes_at bytes)

-- behind `x_seek`
unfoldable pub seek_call_at : List ℕ → Read Call
seek_call_at bytes = mapped (λ p. call.XSeek p.0 p.1) (handle_number_at bytes)

-- behind `x_len`
unfoldable pub len_call_at : List ℕ → Read Call
len_call_at bytes = mapped (λ h. call.XLen h) (handle_at bytes)

-- behind `x_rename`
unfoldable pub rename_at : List ℕ → Read Call
rename_at bytes = mapped (λ p. call.XRename p.0 p.1) (two_names_at bytes)

-- behind `x_close`
unfoldable pub close_at : List ℕ → Read Call
close_at bytes = mapped (λ h. call.XClose h) (handle_at bytes)

-- behind `x_read_pipe`
unfoldable pub read_pipe_call_at : List ℕ → Read Call
read_pipe_call_at bytes = mapped (λ p. call.XReadPipe p.0 p.1) (handle_number_at bytes)

-- behind `x_recvmsg`
unfoldable pub receive_call_at : List ℕ → Read Call
receive_call_at bytes = mapped (λ h. call.XRecvmsg h) (handle_at bytes)

-- behind `x_unlink`
unfoldable pub unlink_at : List ℕ → Read Call
unlink_at bytes = mapped (λ p. call.XUnlink p.0 p.1) (name_slot_at bytes)

-- behind `x_sync`
unfoldable pub sync_at : List ℕ → Read Call
sync_at bytes = mapped (λ p. call.XSync p.0 p.1) (handle_slot_at bytes)

-- behind `x_write_pipe`
unfoldable pub write_pipe_at : List ℕ → Read Call
write_pipe_at bytes = mapped (λ p. call.XWritePipe p.0 p.1 p.2) (handle_bytes_slot_at bytes)

-- behind `x_shutdown`
unfoldable pub shut_down_at : List ℕ → Read Call
shut_down_at bytes = mapped (λ p. call.XShutdown p.0 p.1) (handle_slot_at bytes)

-- behind `x_sendmsg`
unfoldable pub send_at : List ℕ → Read Call
send_at bytes = mapped (λ p. call.XSendmsg p.0 p.1 p.2) (handle_bytes_slot_at bytes)

-- behind `x_thread_create`
unfoldable pub start_at : List ℕ → Read Call
start_at bytes = mapped (λ p. call.XThreadCreate p.0 p.1) (ident_slot_at bytes)

-- ---- calls
-- those on an inner block
unfoldable pub block_call_at : List ℕ → Read Call
block_call_at bytes =
    read_behind (past (codes "save") bytes) (says call.Save)
    (read_behind (past (codes "keep") bytes) (says call.Keep)
    (read_behind (past (codes "back") bytes) (says call.Back) None))

-- those after `x_unlink`, in the order of the grammar
unfoldable pub late_call_at : List ℕ → Read Call
late_call_at bytes =
    read_behind (past (codes "x_sync ") bytes) sync_at
    (read_behind (past (codes "x_write_pipe ") bytes) write_pipe_at
    (read_behind (past (codes "x_shutdown ") bytes) shut_down_at
    (read_behind (past (codes "x_sendmsg ") bytes) send_at
    (read_behind (past (codes "x_thread_create ") bytes) start_at
    (block_call_at bytes)))))

-- those after `x_pipe`
unfoldable pub pipe_call_at : List ℕ → Read Call
pipe_call_at bytes =
    read_behind (past (codes "x_read_pipe ") bytes) read_pipe_call_at
    (read_behind (past (codes "x_pair") bytes) (says call.XPair)
    (read_behind (past (codes "x_recvmsg ") bytes) receive_call_at
    (read_behind (past (codes "x_unlink ") bytes) unlink_at
    (late_call_at bytes))))

-- those after `x_write_ovr`
unfoldable pub file_call_at : List ℕ → Read Call
file_call_at bytes =
    read_behind (past (codes "x_write_seq ") bytes) append_call_at
    (read_behind (past (codes "x_seek ") bytes) seek_call_at
    (read_behind (past (codes "x_len ") bytes) len_call_at
    (read_behind (past (codes "x_rename ") bytes) rename_at
    (read_behind (past (codes "x_close ") bytes) close_at
    (read_behind (past (codes "x_pipe") bytes) (says call.XPipe)
    (pipe_call_at bytes))))))

-- a call, behind the spaces of its line
unfoldable pub call_at : List ℕ → Read Call
call_at bytes =
    read_behind (past (codes "load ") bytes) load_at
    (read_behind (past (codes "store ") bytes) store_at
    (read_behind (past (codes "x_open ") bytes) open_call_at
    (read_behind (past (codes "x_create ") bytes) create_at
    (read_behind (past (codes "x_read ") bytes) read_call_at
    (read_behind (past (codes "x_write_ovr ") bytes) overwrite_call_at
    (file_call_at bytes))))))
