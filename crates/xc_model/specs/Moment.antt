-- A station between two turns, as plain data.
use Rattle.std.specs.Prelude.{◌≡◌, ◌⊎◌, ℕ, ◌+◌, List, [], ◌∷◌, ◌++◌, length, nat_eq, slice_set, Contains, Option, if◌then◌else◌}
use Rattle.std.specs.List.{filter_map}
use Rattle.std.specs.declared.option.Option.TheVariants.{None, Some}
use Rattle.xc_data.specs.Step.{Step}
use Rattle.xc_data.specs.declared.call.Call.{Call}
use Rattle.xc_data.specs.declared.call.Reply.{Reply}
use Rattle.xc_data.specs.declared.call.LateCall.{LateCall}
use Rattle.xc_data.specs.declared.call.LateEnd.{LateEnd}
use Rattle.xc_data.specs.declared.claim.Claim.{Claim}
use Rattle.xc_data.specs.declared.entry.Cause.{Cause}
use Rattle.xc_data.specs.declared.entry.Cause.TheVariants.{Revoked}
use Rattle.xc_data.specs.declared.entry.Entry.{Entry}
use Rattle.xc_data.specs.declared.entry.JobEnd.{JobEnd}
use Rattle.xc_data.specs.declared.entry.KeptItem.{KeptItem}
use Rattle.xc_data.specs.declared.private.Private.{Private}
use Rattle.xc_data.specs.declared.undo.Undo.{Undo}
use Rattle.xc_data.specs.declared.script.HostCallKind.{HostCallKind}
use Rattle.xc_compensate.specs.Records.{Records}
use Rattle.xc_deferred.specs.Queue.{Queue, late_calls_left}
use Rattle.xc_host.specs.Contents.{Contents}
use Rattle.xc_script.specs.declared.ask.Ask.{Ask}
use Rattle.xc_script.specs.Position.{Position}
use Rattle.xc_world.specs.Run.{given_back}
use Rattle.xc_world.specs.World.{World}
use Rattle.xc_model.specs.declared.phase.Attempts.{Attempts}
use Rattle.xc_data.specs.declared.entry.Mark.{Mark}
use Rattle.xc_data.specs.declared.private.Place.{Place}
use Rattle.xc_model.specs.declared.phase.Phase.{Phase}

-- what an open block's save keeps: the handles, the stores, the records, what was taken and the late calls; the job's place
-- keeps what the variables held
pub record SavedView : Type 0 where
  pub places : List Place
  pub writes : List (ℕ × ℕ)
  pub trail : List Undo
  pub taken : List KeptItem
  pub late : List LateCall

-- an active transaction, with what its entry will say
pub record TxView : Type 0 where
  pub number : ℕ
  -- the number of its first attempt
  pub rank : ℕ
  -- the length that the journal had at its begin
  pub began : ℕ
  pub phase : Phase
  pub me : Private
  -- its stores, the oldest first
  pub writes : List (ℕ × ℕ)
  -- what its calls did at the host
  pub undo : Records
  -- what its calls took from pipes and pairs, the oldest first
  pub taken : List KeptItem
  pub calls : List Call
  pub replies : List Reply
  pub held : List Claim
  -- its calls that are kept for the commit, each on the object that was fixed at the call, and the ends of the first of them
  pub late : List LateCall
  pub ends : List LateEnd
  -- in an open block what its save kept
  pub saved : Option SavedView

-- what a job does: it has no active transaction; it has one; its last one was aborted for lack of memory, and no turn came since; it
-- has ended
pub data Doing : Type 0 where
  Idle : Doing
  Active : TxView → Doing
  Starved : Doing
  Ended : JobEnd → Doing

-- a started job
pub record JobView : Type 0 where
  -- the name of its block
  pub block : List ℕ
  -- its handles, as its next transaction begins with them, or the active one began
  pub me : Private
  pub place : Position
  -- what its client has handed in, until it is answered, or its transaction begins or has ended
  pub handed : Option Ask
  -- the attempts at its next transaction that met a holder or were revoked, if there were some
  pub attempts : Option Attempts
  -- how often it was told to wait since its last begin or entry
  pub busy : ℕ
  pub doing : Doing

-- a station: its words, what the host tells with the kept data in front of it, how often the host has failed and how often it
-- was called by kind, the kept data itself (what aborted transactions gave back to pipes and pairs), the journal, the jobs from
-- number 1 on that are live or have ended, the blocks of all that were started, those not yet live after, and the marks of
-- transactions that are to be revoked, by their numbers
pub record Moment : Type 0 where
  pub words : List ℕ
  pub contents : Contents
  pub faults : ℕ
  pub calls : HostCallKind → ℕ
  pub kept : List KeptItem
  pub journal : List Entry
  pub jobs : List JobView
  pub started : List (List ℕ)
  pub marks : ℕ → Option Mark

-- ---- active transactions
-- the active one, where there is one
abbrev pub active_in : Doing → Option TxView
active_in (Active tx) = Some tx
active_in _ = None

-- a job's
abbrev pub active_of : JobView → Option TxView
active_of job = active_in job.doing

-- all, in the order of the jobs
abbrev pub actives : List JobView → List TxView
actives jobs = filter_map active_of jobs

-- how many transactions have begun: those that entered, and those that are active
abbrev pub begun_count : Moment → ℕ
begun_count now = length now.journal + length (actives now.jobs)

-- its late calls, with the ends of the first of them
abbrev pub queue_of : TxView → Queue
queue_of tx = record { calls = tx.late; ends = tx.ends }

-- the transaction with others
abbrev pub with_queue : TxView → Queue → TxView
with_queue tx queue = record tx { late = queue.calls; ends = queue.ends }

-- its late calls that have no end yet
abbrev pub late_left : TxView → List LateCall
late_left tx = late_calls_left (queue_of tx)

-- ---- attempts
-- how many ended in a conflict
abbrev pub failures : Option Attempts → ℕ
failures None = 0
failures (Some a) = a.failed

-- the rank of an attempt of this number
abbrev pub rank_of : Option Attempts → ℕ → ℕ
rank_of None number = number
rank_of (Some a) number = a.first

-- ---- a station with another job in one place, which counts from 0
abbrev pub with_job : Moment → ℕ → JobView → Moment
with_job now at job = record now { jobs = slice_set now.jobs at job }

-- with another job in one place, where the host was called: what it tells, and how often it has failed and was called, is as it
-- says
abbrev pub Touches : Moment → ℕ → JobView → Moment → Type 0
Touches old at job new = new ≡ record (with_job old at job) { contents = new.contents; faults = new.faults; calls = new.calls }

-- the same where data may be taken too: what is kept is as it says
abbrev pub TouchesData : Moment → ℕ → JobView → Moment → Type 0
TouchesData old at job new =
    new ≡ record (with_job old at job) { contents = new.contents; faults = new.faults; calls = new.calls; kept = new.kept }

-- what is kept, before and after
abbrev pub kept_between : Moment → Moment → Step (List KeptItem)
kept_between old new = record { old = old.kept; new = new.kept }

-- these are given back in front of what was kept, in every world; and each item that is kept was one of these, or kept before
pub record GivesBack (taken : List KeptItem) (kept : Step (List KeptItem)) : Type 0 where
  pub given : (w : World) → given_back w kept.new ≡ given_back (given_back w kept.old) taken
  pub among : (item : KeptItem) → Contains kept.new item → Contains taken item ⊎ Contains kept.old item

-- the cause of a marked one's abort
abbrev pub revoked : Mark → Cause
revoked m = Revoked m.object m.by m.at

-- the marks without that of this transaction
abbrev pub unmarked : (ℕ → Option Mark) → ℕ → ℕ → Option Mark
unmarked marks number n = if nat_eq n number then None else marks n

-- and with one entry more, whose transaction has no mark any more
abbrev pub entering : Moment → ℕ → JobView → Entry → Moment
entering now at job entry =
    record (with_job now at job) { journal = now.journal ++ entry ∷ []; marks = unmarked now.marks entry.tx }

-- and with more jobs, which have the next numbers
abbrev pub jobs_joined : Moment → List JobView → Moment
jobs_joined now more = record now { jobs = now.jobs ++ more }

-- the job, told to wait once more
abbrev pub asked_to_wait : JobView → JobView
asked_to_wait job = record job { busy = job.busy + 1 }
