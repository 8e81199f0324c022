-- A job on its way through the replies of an entry.
use Rattle.std.specs.Prelude.{◌≡◌, ℕ, ◌≤◌, Bool, true, false, List, [], ◌∷◌, map, slice_get, Option}
use Rattle.std.specs.declared.option.Option.TheVariants.{Some}
use Rattle.xc_data.specs.declared.call.Call.{Call}
use Rattle.xc_data.specs.declared.call.Reply.{Reply}
use Rattle.xc_data.specs.declared.call.Call.TheVariants as call
use Rattle.xc_data.specs.declared.entry.Cause.{Cause}
use Rattle.xc_data.specs.declared.entry.Cause.TheVariants as cause
use Rattle.xc_data.specs.declared.entry.Entry.{Entry}
use Rattle.xc_data.specs.declared.entry.Outcome.{Outcome}
use Rattle.xc_data.specs.declared.entry.Outcome.TheVariants.{Committed, Aborted}
use Rattle.xc_text.specs.declared.script.Script.{Script}
use Rattle.xc_script.specs.declared.ask.Ask.{Ask}
use Rattle.xc_script.specs.declared.ask.Ask.TheVariants as ask
use Rattle.xc_script.specs.Ask.{Job, block_place, fresh_job}
use Rattle.xc_script.specs.Asking.{asks}
use Rattle.xc_script.specs.Blocks.{BlockWalk, all_replied, block_from, kept_calls}
use Rattle.xc_script.specs.Position.{Position, walk_of}
use Rattle.xc_model.specs.Asked.{ScriptJob, job_abort, last_asked, script_started}
use Rattle.xc_model.specs.Live.{has_clients}
use Rattle.xc_model.specs.Progress.{committed_job, started_blocks}

-- where its transaction is, with the block that is open
abbrev pub walk_there : Script → Position → BlockWalk
walk_there script place = record { walk = walk_of script place; saved = place.saved }

-- the call at this place is what is asked
abbrev pub IsAskedAt : BlockWalk → List Call → ℕ → Type 0
IsAskedAt b calls at = (call : Call) × (slice_get calls at ≡ Some call) × (asks b.walk ≡ ask.Call call)

-- its transaction has gone on after these replies, and what the variables held at the start is kept
pub record IsBehindReplies (script : Script) (job : Job) (replies : List Reply) (place : Position) : Type 0 where
  pub block : place.block ≡ job.block
  pub next : place.next ≡ job.next
  pub begun : place.begun ≡ job.variables
  pub variables : place.variables ≡ (all_replied (block_from script job) replies).walk.variables

-- where the job stands after an entry of its with this outcome
abbrev pub job_outcome : Script → Job → Entry → Outcome → Job
job_outcome script job e (Committed late) = committed_job script job e.calls e.replies late
job_outcome script job e (Aborted report) = job_abort job report.cause

-- a job of the opening, of the block of this name
abbrev pub opened_script_job : Script → List ℕ → ScriptJob
opened_script_job script name = record { block = name; job = fresh_job script (block_place script name) }

-- a job after an entry of its
abbrev pub job_entered : Script → ScriptJob → Entry → ScriptJob
job_entered script j e = record j { job = job_outcome script j.job e e.outcome }

-- the jobs that an entry with this outcome started, whose job stands so behind it
abbrev pub children : Script → Job → Entry → Outcome → List ScriptJob
children script behind e (Committed late) = map (script_started script behind) (started_blocks (kept_calls e.calls e.replies) late)
children script behind e (Aborted report) = []

-- ---- what was asked last
-- what a client asked last, as far as a text tells it by why the transaction was aborted: some call where it met a holder, and
-- anything where it was revoked or memory was wanting
abbrev pub client_asked : Cause → Ask
client_asked cause.Asked = ask.Abort
client_asked (cause.Conflict object holder at) = ask.Call call.Back
client_asked (cause.Stuck failed) = ask.Call call.Back
client_asked (cause.Revoked object by at) = ask.Commit
client_asked cause.NoMemory = ask.Commit

-- the same by how it ended
abbrev pub client_end : Outcome → Ask
client_end (Committed late) = ask.Commit
client_end (Aborted report) = client_asked report.cause

-- what was asked last of an entry by clients, as far as a text tells it, or by a script
abbrev pub told_of : Bool → Script → Option ScriptJob → Entry → Ask
told_of true script o e = client_end e.outcome
told_of false script o e = last_asked script o e.replies

-- the same, by who asks the script's jobs
abbrev pub last_told : Script → Option ScriptJob → Entry → Ask
last_told script o e = told_of (has_clients script) script o e

-- ---- how far jobs have come
-- the numbers of their next transactions are at most this
abbrev pub AreFew : ℕ → List ScriptJob → Type 0
AreFew count [] = Unit {0}
AreFew count (j ∷ jobs) = (j.job.next ≤ count) × AreFew count jobs
