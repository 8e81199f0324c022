-- The plain machine of host calls: what each answers, and the state after it.
use Rattle.std.specs.Prelude.{◌≡◌, ◌⊎◌, ℕ, ◌+◌, ◌<◌, ◌≤◌, true, false, is_some, None, Some, if◌then◌else◌}
use Rattle.std.specs.Prelude.{List, [], ◌∷◌, length, take, drop}
use Rattle.std.specs.FinMap as map
use Rattle.xc_data.specs.declared.object.Num.{Num}
use Rattle.xc_data.specs.declared.script.HostCallKind.{HostCallKind}
use Rattle.xc_data.specs.declared.script.HostCallKind.TheVariants as kind
use Rattle.xc_host.specs.Contents.{Contents, file_in, has_file, wrote, appended, shortened, created, uncreated, renamed, unnamed}
use Rattle.xc_host.specs.Pipes.{pipe_in, has_pipe, with_new_pipe, put_into, shut_in, without_pipe, pipe_state, after_take}
use Rattle.xc_host.specs.Pairs.{pair_in, has_pair, with_new_pair, sent_from, without_pair, side_state, after_receipt}
use Rattle.xc_host.specs.declared.pipes.Took.{Took}
use Rattle.xc_memhost.specs.declared.calls.HostCall.{HostCall}
use Rattle.xc_memhost.specs.declared.calls.HostCall.TheVariants as call
use Rattle.xc_memhost.specs.declared.calls.HostAnswer.{HostAnswer}
use Rattle.xc_memhost.specs.declared.calls.HostAnswer.TheVariants.{Found, Number, Got, Stands, Taken, Done, Fault}
use Rattle.xc_memhost.specs.State.{MemState}
use Rattle.xc_memhost.specs.Faults.{is_listed, call_begun, grained}
use Rattle.xc_memhost.specs.Pipes.{took_of, MayTake, MayPut, MayShut}
use Rattle.xc_memhost.specs.Pairs.{received_of, MayAsk, MaySend}

-- the kind of a call
abbrev pub host_call_kind : HostCall → HostCallKind
host_call_kind (call.Lookup name) = kind.Lookup
host_call_kind (call.Create name num) = kind.Create
host_call_kind (call.Len file) = kind.Len
host_call_kind (call.ReadAt file at n) = kind.ReadAt
host_call_kind (call.WriteAt file at bytes) = kind.WriteAt
host_call_kind (call.Append file bytes) = kind.Append
host_call_kind (call.Rename from to) = kind.Rename
host_call_kind (call.Unlink name) = kind.Unlink
host_call_kind (call.Sync file) = kind.Sync
host_call_kind (call.NewPipe num) = kind.NewPipe
host_call_kind (call.PipeState pipe) = kind.PipeState
host_call_kind (call.Take pipe n) = kind.Take
host_call_kind (call.Put pipe bytes) = kind.Put
host_call_kind (call.NewPair num) = kind.NewPair
host_call_kind (call.PairState pair side) = kind.PairState
host_call_kind (call.Recv pair side) = kind.Recv
host_call_kind (call.Send pair side bytes) = kind.Send
host_call_kind (call.Shut object) = kind.Shut
host_call_kind (call.Restore file at bytes) = kind.Restore
host_call_kind (call.Cut file len) = kind.Cut
host_call_kind (call.Uncreate name num) = kind.Uncreate
host_call_kind (call.NameBack from to) = kind.NameBack
host_call_kind (call.DropPipe num) = kind.DropPipe
host_call_kind (call.DropPair num) = kind.DropPair

-- ---- a call that doesn't fail
-- of n bytes from `at`, those that are there and that one call reads
abbrev pub read_front : MemState → Num → ℕ → ℕ → List ℕ
read_front s file at n = take (grained s.grain n) (drop at (file_in s.contents file))

-- as many of the bytes as one call writes
abbrev pub written_count : MemState → List ℕ → ℕ
written_count s bytes = grained s.grain (length bytes)

-- the contents with those bytes in a file
abbrev pub written : MemState → Num → ℕ → List ℕ → Contents
written s file at bytes = wrote s.contents file at (take (written_count s bytes) bytes)

-- the contents with those bytes after a file's
abbrev pub lengthened : MemState → Num → List ℕ → Contents
lengthened s file bytes = appended s.contents file (take (written_count s bytes) bytes)

-- what it takes of a pipe
abbrev pub pipe_take : MemState → Num → ℕ → Took
pipe_take s pipe n = took_of s.grain (pipe_in s.contents pipe) n

-- the contents with as many of the bytes as one call puts after a pipe's
abbrev pub filled : MemState → Num → List ℕ → Contents
filled s pipe bytes = put_into s.contents pipe (take (written_count s bytes) bytes)

-- what it takes of the messages that wait for a side of a pair
abbrev pub pair_take : MemState → Num → ℕ → Took
pair_take s pair side = received_of (pair_in s.contents pair) side

-- its answer
abbrev pub host_answer : MemState → HostCall → HostAnswer
host_answer s (call.Lookup name) = Found (map.get s.contents.names name)
host_answer s (call.Create name num) = Done
host_answer s (call.Len file) = Number (length (file_in s.contents file))
host_answer s (call.ReadAt file at n) = Got (read_front s file at n)
host_answer s (call.WriteAt file at bytes) = Number (written_count s bytes)
host_answer s (call.Append file bytes) = Number (written_count s bytes)
host_answer s (call.Rename from to) = Done
host_answer s (call.Unlink name) = Done
host_answer s (call.Sync file) = Done
host_answer s (call.NewPipe num) = Done
host_answer s (call.PipeState pipe) = Stands (pipe_state (pipe_in s.contents pipe))
host_answer s (call.Take pipe n) = Taken (pipe_take s pipe n)
host_answer s (call.Put pipe bytes) = Number (written_count s bytes)
host_answer s (call.NewPair num) = Done
host_answer s (call.PairState pair side) = Stands (side_state (pair_in s.contents pair) side)
host_answer s (call.Recv pair side) = Taken (pair_take s pair side)
host_answer s (call.Send pair side bytes) = Done
host_answer s (call.Shut object) = Done
host_answer s (call.Restore file at bytes) = Number (written_count s bytes)
host_answer s (call.Cut file len) = Done
host_answer s (call.Uncreate name num) = Done
host_answer s (call.NameBack from to) = Done
host_answer s (call.DropPipe num) = Done
host_answer s (call.DropPair num) = Done

-- the contents after it
abbrev pub contents_changed : MemState → HostCall → Contents
contents_changed s (call.Create name num) = created s.contents name num
contents_changed s (call.WriteAt file at bytes) = written s file at bytes
contents_changed s (call.Append file bytes) = lengthened s file bytes
contents_changed s (call.Rename from to) = renamed s.contents from to
contents_changed s (call.Unlink name) = unnamed s.contents name
contents_changed s (call.Restore file at bytes) = written s file at bytes
contents_changed s (call.Cut file len) = shortened s.contents file len
contents_changed s (call.Uncreate name num) = uncreated s.contents name num
contents_changed s (call.NameBack from to) = renamed s.contents to from
contents_changed s (call.NewPipe num) = with_new_pipe s.contents num
contents_changed s (call.Take pipe n) = after_take pipe (pipe_take s pipe n) s.contents
contents_changed s (call.Put pipe bytes) = filled s pipe bytes
contents_changed s (call.NewPair num) = with_new_pair s.contents num
contents_changed s (call.Recv pair side) = after_receipt pair side (pair_take s pair side) s.contents
contents_changed s (call.Send pair side bytes) = sent_from s.contents pair side bytes
contents_changed s (call.Shut object) = shut_in s.contents object
contents_changed s (call.DropPipe num) = without_pipe s.contents num
contents_changed s (call.DropPair num) = without_pair s.contents num
contents_changed s (call.Lookup name) = s.contents
contents_changed s (call.Len file) = s.contents
contents_changed s (call.ReadAt file at n) = s.contents
contents_changed s (call.Sync file) = s.contents
contents_changed s (call.PipeState pipe) = s.contents
contents_changed s (call.PairState pair side) = s.contents

-- ---- any call: a listed one fails and changes nothing but the counts
-- its answer
abbrev pub answer : MemState → HostCall → HostAnswer
answer s c = if is_listed (host_call_kind c) s then Fault else host_answer s c

-- the state after it
abbrev pub after_host_call : MemState → HostCall → MemState
after_host_call s c =
    record (call_begun (host_call_kind c) s) { contents = if is_listed (host_call_kind c) s then s.contents else contents_changed s c }

-- ---- calls one after another
-- what each answers
abbrev pub answers : MemState → List HostCall → List HostAnswer
answers s [] = []
answers s (c ∷ cs) = answer s c ∷ answers (after_host_call s c) cs

-- the state after all of them
abbrev pub after_all : MemState → List HostCall → MemState
after_all s [] = s
after_all s (c ∷ cs) = after_all (after_host_call s c) cs

-- lack of memory stops at a call: it was made, or only counted
abbrev pub StopsAtCall : MemState → HostCall → MemState → Type 0
StopsAtCall s c now = (now ≡ after_host_call s c) ⊎ (now ≡ call_begun (host_call_kind c) s)

-- lack of memory stops at one of the calls, after those before it
abbrev pub StopsAmong : MemState → List HostCall → MemState → Type 0
StopsAmong s [] now = ⊥
StopsAmong s (c ∷ cs) now = StopsAtCall s c now ⊎ StopsAmong (after_host_call s c) cs now

-- ---- what a call may ask
-- a file is made of a new number, under a name that is absent
pub record MayCreate (c : Contents) (name : List ℕ) (num : Num) : Type 0 where
  pub absent : map.get c.names name ≡ None
  pub new : has_file c num ≡ false

-- a write lies inside a file that is there, and isn't empty
pub record MayWrite (c : Contents) (file : Num) (at : ℕ) (bytes : List ℕ) : Type 0 where
  pub there : has_file c file ≡ true
  pub inside : at + length bytes ≤ length (file_in c file)
  pub some : 0 < length bytes

-- what is appended isn't empty, and a file that is there has place for it
pub record MayAppend (c : Contents) (file : Num) (bytes : List ℕ) : Type 0 where
  pub there : has_file c file ≡ true
  pub fits : length (file_in c file) + length bytes ≤ 65536
  pub some : 0 < length bytes

-- a name that is there takes another that is absent
pub record MayRename (c : Contents) (from to : List ℕ) : Type 0 where
  pub there : is_some (map.get c.names from) ≡ true
  pub absent : map.get c.names to ≡ None

-- a file that is there is cut inside
pub record MayCut (c : Contents) (file : Num) (len : ℕ) : Type 0 where
  pub there : has_file c file ≡ true
  pub within : len ≤ length (file_in c file)

-- a file that is there goes with its name
pub record MayUncreate (c : Contents) (name : List ℕ) (num : Num) : Type 0 where
  pub named : map.get c.names name ≡ Some num
  pub there : has_file c num ≡ true

-- a call asks of objects that are there, and makes what isn't
abbrev pub IsAllowed : Contents → HostCall → Type 0
IsAllowed c (call.Lookup name) = Unit {0}
IsAllowed c (call.Create name num) = MayCreate c name num
IsAllowed c (call.Len file) = has_file c file ≡ true
IsAllowed c (call.ReadAt file at n) = has_file c file ≡ true
IsAllowed c (call.WriteAt file at bytes) = MayWrite c file at bytes
IsAllowed c (call.Append file bytes) = MayAppend c file bytes
IsAllowed c (call.Rename from to) = MayRename c from to
IsAllowed c (call.Unlink name) = is_some (map.get c.names name) ≡ true
IsAllowed c (call.Sync file) = has_file c file ≡ true
IsAllowed c (call.NewPipe num) = has_pipe c num ≡ false
IsAllowed c (call.PipeState pipe) = has_pipe c pipe ≡ true
IsAllowed c (call.Take pipe n) = MayTake c pipe n
IsAllowed c (call.Put pipe bytes) = MayPut c pipe bytes
IsAllowed c (call.NewPair num) = has_pair c num ≡ false
IsAllowed c (call.PairState pair side) = MayAsk c pair side
IsAllowed c (call.Recv pair side) = MayAsk c pair side
IsAllowed c (call.Send pair side bytes) = MaySend c pair side bytes
IsAllowed c (call.Shut object) = MayShut c object
IsAllowed c (call.Restore file at bytes) = MayWrite c file at bytes
IsAllowed c (call.Cut file len) = MayCut c file len
IsAllowed c (call.Uncreate name num) = MayUncreate c name num
IsAllowed c (call.NameBack from to) = MayRename c to from
IsAllowed c (call.DropPipe num) = has_pipe c num ≡ true
IsAllowed c (call.DropPair num) = has_pair c num ≡ true

-- each call may ask what it asks, in the state that those before it leave
abbrev pub AreAllowed : MemState → List HostCall → Type 0
AreAllowed s [] = Unit {0}
AreAllowed s (c ∷ cs) = IsAllowed s.contents c × AreAllowed (after_host_call s c) cs
