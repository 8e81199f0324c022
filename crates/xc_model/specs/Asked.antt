-- A journal in which a script asked: each call, what was asked last of each transaction, and the jobs that were started. No state of
-- the plain machine is asked.
use Rattle.std.specs.Prelude.{◌≡◌, ℕ, ◌+◌, ◌-◌, List, [], ◌∷◌, ◌++◌, map, slice_get, slice_set, IsSome, Option}
use Rattle.std.specs.declared.option.Option.TheVariants.{None, Some}
use Rattle.xc_data.specs.Calls.{thread_asked}
use Rattle.xc_data.specs.declared.call.Call.{Call}
use Rattle.xc_data.specs.declared.call.Reply.{Reply}
use Rattle.xc_data.specs.declared.entry.Cause.{Cause}
use Rattle.xc_data.specs.declared.entry.Cause.TheVariants as cause
use Rattle.xc_data.specs.declared.entry.Entry.{Entry}
use Rattle.xc_data.specs.declared.entry.Outcome.{Outcome}
use Rattle.xc_data.specs.declared.entry.Outcome.TheVariants.{Committed, Aborted}
use Rattle.xc_text.specs.declared.script.Script.{Script}
use Rattle.xc_script.specs.declared.ask.Ask.{Ask}
use Rattle.xc_script.specs.declared.ask.Ask.TheVariants as ask
use Rattle.xc_script.specs.Ask.{Job, next_body, fresh_job, block_place}
use Rattle.xc_script.specs.Asking.{asks}
use Rattle.xc_script.specs.Blocks.{BlockWalk, replied, all_replied, block_from, kept_calls}
use Rattle.xc_model.specs.Live.{IsScripted}
use Rattle.xc_model.specs.Progress.{Following, started_blocks, started_from, committed_job}
use Rattle.xc_model.specs.Starts.{AreStarts}

-- ---- what a job is asked
-- each call is the one that is asked after the replies before it
abbrev pub AsksEach : BlockWalk → List Call → List Reply → Type 0
AsksEach b [] replies = replies ≡ []
AsksEach b (call ∷ calls) [] = ⊥
AsksEach b (call ∷ calls) (reply ∷ replies) = (asks b.walk ≡ ask.Call call) × AsksEach (replied b reply) calls replies

-- what is asked after these replies of the next transaction
abbrev pub asked_after : Script → Job → List Reply → Ask
asked_after script job replies = asks (all_replied (block_from script job) replies).walk

-- the same of a job that the journal tells
abbrev pub next_of : Script → Following → List Reply → Ask
next_of script f replies = asked_after script f.job replies

-- ---- where jobs stand in the script
-- a started job: the name of its block, and where it stands
pub record ScriptJob : Type 0 where
  pub block : List ℕ
  pub job : Job

-- those of the opening
abbrev pub opening_jobs : Script → List ScriptJob
opening_jobs script = map (λ name. record { block = name; job = fresh_job script (block_place script name) }) script.outline.jobs

-- one that was started by a job that stands so
abbrev pub script_started : Script → Job → List ℕ → ScriptJob
script_started script starter block = record { block = block; job = started_from script starter.variables block }

-- after an abort that was asked for, or a block that got stuck, the next transaction is asked; else the same once more
abbrev pub job_abort : Job → Cause → Job
job_abort job cause.Asked = record job { next = job.next + 1 }
job_abort job (cause.Stuck failed) = record job { next = job.next + 1 }
job_abort job _ = job

-- after an entry of this job with this outcome
abbrev pub jobs_outcome : Script → List ScriptJob → ScriptJob → Entry → Outcome → List ScriptJob
jobs_outcome script jobs j e (Committed late) =
    let behind = committed_job script j.job e.calls e.replies late in
    let blocks = started_blocks (kept_calls e.calls e.replies) late in
    slice_set jobs (e.job - 1) (record j { job = behind }) ++ map (script_started script behind) blocks
jobs_outcome script jobs j e (Aborted report) = slice_set jobs (e.job - 1) (record j { job = job_abort j.job report.cause })

-- the job that an entry is of
abbrev pub script_job_of : List ScriptJob → Entry → Option ScriptJob
script_job_of jobs e = slice_get jobs (e.job - 1)

-- what an entry leads to, where its job is started
abbrev pub jobs_behind : Script → List ScriptJob → Entry → Option ScriptJob → List ScriptJob
jobs_behind script jobs e None = jobs
jobs_behind script jobs e (Some j) = jobs_outcome script jobs j e e.outcome

-- after one entry more
abbrev pub after_jobs : Script → List ScriptJob → Entry → List ScriptJob
after_jobs script jobs e = jobs_behind script jobs e (script_job_of jobs e)

-- ---- one entry
-- each call that was kept for the commit and starts a job ended by the script's blocks and by the blocks of the jobs that were
-- started before it
abbrev pub StartsJobs : Script → List (List ℕ) → Entry → Outcome → Type 0
StartsJobs script blocks e (Committed late) = AreStarts script blocks (map thread_asked (kept_calls e.calls e.replies)) late
StartsJobs script blocks e (Aborted report) = Unit {0}

-- an entry of a script's block: its calls are the script's, and so is what was asked last
pub record IsOfBlock (script : Script) (job : Job) (last : Ask) (e : Entry) : Type 0 where
  pub calls : AsksEach (block_from script job) e.calls e.replies
  pub after : last ≡ asked_after script job e.replies

-- a transaction of this job is left; of a script it is what its block asks
pub record IsAskedBy (script : Script) (job : Job) (last : Ask) (e : Entry) : Type 0 where
  pub left : IsSome (next_body script job)
  pub scripted : IsScripted script → IsOfBlock script job last e

-- its job is started, and the commit starts jobs as the script has it
pub record IsAskedEntry (script : Script) (jobs : List ScriptJob) (last : Ask) (e : Entry) : Type 0 where
  pub asking : ScriptJob
  pub started : script_job_of jobs e ≡ Some asking
  pub asked : IsAskedBy script asking.job last e
  pub starts : StartsJobs script (map (λ (j : ScriptJob). j.block) jobs) e e.outcome

-- ---- a whole journal
-- each entry, after those before it; `lasts` has what was asked last, entry by entry
abbrev pub AreAskedBy : Script → List ScriptJob → List Ask → List Entry → Type 0
AreAskedBy script jobs lasts [] = lasts ≡ []
AreAskedBy script jobs [] (e ∷ journal) = ⊥
AreAskedBy script jobs (last ∷ lasts) (e ∷ journal) =
    IsAskedEntry script jobs last e × AreAskedBy script (after_jobs script jobs e) lasts journal

-- what is asked after these replies, where the job is started
abbrev pub last_asked : Script → Option ScriptJob → List Reply → Ask
last_asked script None replies = ask.End
last_asked script (Some j) replies = asked_after script j.job replies

-- what the script asks last of each entry
abbrev pub lasts_from : Script → List ScriptJob → List Entry → List Ask
lasts_from script jobs [] = []
lasts_from script jobs (e ∷ journal) =
    last_asked script (script_job_of jobs e) e.replies ∷ lasts_from script (after_jobs script jobs e) journal

-- the same of a whole journal
abbrev pub lasts_of : Script → List Entry → List Ask
lasts_of script journal = lasts_from script (opening_jobs script) journal
