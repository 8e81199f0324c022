-- Which replies may come of a call that the private checks let pass, over any host. A bad word counts as passed.
use Rattle.std.specs.Prelude.{ℕ, ◌==◌, ◌&&◌, ◌||◌, not, nat_lt, nat_le, Bool, true, false, List, length}
use Rattle.xc_data.specs.declared.call.Call.{Call}
use Rattle.xc_data.specs.declared.call.Call.TheVariants as call
use Rattle.xc_data.specs.declared.call.Reply.{Reply}
use Rattle.xc_data.specs.declared.call.Reply.TheVariants as reply

-- what a read of so many bytes may bring: at most these, and none only where it asks for none
abbrev pub may_bring : ℕ → List ℕ → Bool
may_bring n bytes = nat_le (length bytes) n && (n == 0 || not (length bytes == 0))

-- the reply may come. The last row of a call is for all other replies, also for one yet to come: they never do
abbrev pub may_reply : Call → Reply → Bool
may_reply (call.Load at) (reply.Number n) = true
may_reply (call.Load at) reply.BadWord = true
may_reply (call.Load at) _ = false
may_reply (call.Store at value) reply.Done = true
may_reply (call.Store at value) reply.BadWord = true
may_reply (call.Store at value) _ = false
may_reply (call.XOpen name) (reply.Made h) = true
may_reply (call.XOpen name) reply.NoName = true
may_reply (call.XOpen name) (reply.Fault done) = done == 0
may_reply (call.XOpen name) _ = false
may_reply (call.XCreate name) (reply.Made h) = true
may_reply (call.XCreate name) reply.Exists = true
may_reply (call.XCreate name) (reply.Fault done) = done == 0
may_reply (call.XCreate name) _ = false
-- a read that asks for no byte meets neither an end nor a fault
may_reply (call.XRead h n) (reply.Got bytes) = may_bring n bytes
may_reply (call.XRead h n) reply.End = not (n == 0)
may_reply (call.XRead h n) (reply.Fault done) = not (n == 0) && done == 0
may_reply (call.XRead h n) _ = false
-- a write of no byte is done
may_reply (call.XWriteOvr h bytes) reply.Done = true
may_reply (call.XWriteOvr h bytes) reply.PastEnd = not (length bytes == 0)
may_reply (call.XWriteOvr h bytes) (reply.Fault done) = nat_lt done (length bytes)
may_reply (call.XWriteOvr h bytes) _ = false
may_reply (call.XWriteSeq h bytes) reply.Done = true
may_reply (call.XWriteSeq h bytes) reply.TooBig = not (length bytes == 0)
may_reply (call.XWriteSeq h bytes) (reply.Fault done) = nat_lt done (length bytes)
may_reply (call.XWriteSeq h bytes) _ = false
may_reply (call.XSeek h to) reply.Done = true
may_reply (call.XSeek h to) reply.TooBig = true
may_reply (call.XSeek h to) _ = false
may_reply (call.XLen h) (reply.Number n) = true
may_reply (call.XLen h) (reply.Fault done) = done == 0
may_reply (call.XLen h) _ = false
may_reply (call.XRename from to) reply.Done = true
may_reply (call.XRename from to) reply.NoName = true
may_reply (call.XRename from to) reply.Exists = true
may_reply (call.XRename from to) (reply.Fault done) = done == 0
may_reply (call.XRename from to) _ = false
may_reply (call.XClose h) reply.Done = true
may_reply (call.XClose h) _ = false
may_reply call.XPipe (reply.Made h) = true
may_reply call.XPipe (reply.Fault done) = done == 0
may_reply call.XPipe _ = false
may_reply (call.XReadPipe h n) (reply.Got bytes) = may_bring n bytes
may_reply (call.XReadPipe h n) reply.Empty = not (n == 0)
may_reply (call.XReadPipe h n) reply.End = not (n == 0)
may_reply (call.XReadPipe h n) (reply.Fault done) = not (n == 0) && done == 0
may_reply (call.XReadPipe h n) _ = false
may_reply call.XPair (reply.MadePair h g) = true
may_reply call.XPair (reply.Fault done) = done == 0
may_reply call.XPair _ = false
-- a message may have no bytes
may_reply (call.XRecvmsg h) (reply.Got bytes) = nat_le (length bytes) 1024
may_reply (call.XRecvmsg h) reply.Empty = true
may_reply (call.XRecvmsg h) reply.End = true
may_reply (call.XRecvmsg h) (reply.Fault done) = done == 0
may_reply (call.XRecvmsg h) _ = false
may_reply (call.XUnlink name slot) reply.Late = true
may_reply (call.XUnlink name slot) _ = false
may_reply (call.XSync h slot) reply.Late = true
may_reply (call.XSync h slot) _ = false
may_reply (call.XWritePipe h bytes slot) reply.Late = true
may_reply (call.XWritePipe h bytes slot) _ = false
may_reply (call.XShutdown h slot) reply.Late = true
may_reply (call.XShutdown h slot) _ = false
may_reply (call.XSendmsg h bytes slot) reply.Late = true
may_reply (call.XSendmsg h bytes slot) _ = false
may_reply (call.XThreadCreate body slot) reply.Late = true
may_reply (call.XThreadCreate body slot) _ = false
may_reply call.Save reply.Done = true
may_reply call.Save _ = false
may_reply call.Keep reply.Done = true
may_reply call.Keep _ = false
may_reply call.Back (reply.Undone faults) = true
may_reply call.Back _ = false
