-- What a journal has led to: the plain machine's state, and where each started job stands.
use Rattle.std.specs.Prelude.{ℕ, ◌+◌, ◌-◌, Bool, true, false, List, [], ◌∷◌, ◌++◌, length, map}
use Rattle.std.specs.Prelude.{slice_get, slice_set, replicate, Option, unwrap_or}
use Rattle.std.specs.declared.option.Option.TheVariants.{None, Some}
use Rattle.std.specs.List.{fold}
use Rattle.xc_data.specs.declared.call.Call.{Call}
use Rattle.xc_data.specs.declared.call.Call.TheVariants.{XThreadCreate}
use Rattle.xc_data.specs.declared.call.Reply.{Reply}
use Rattle.xc_data.specs.declared.call.LateEnd.{LateEnd}
use Rattle.xc_data.specs.declared.call.LateEnd.TheVariants as end
use Rattle.xc_data.specs.declared.entry.Cause.{Cause}
use Rattle.xc_data.specs.declared.entry.Cause.TheVariants as cause
use Rattle.xc_data.specs.declared.entry.Report.{Report}
use Rattle.xc_data.specs.declared.entry.Outcome.{Outcome}
use Rattle.xc_data.specs.declared.entry.Outcome.TheVariants.{Committed, Aborted}
use Rattle.xc_data.specs.declared.entry.Entry.{Entry}
use Rattle.xc_data.specs.declared.private.Private.{Private}
use Rattle.xc_text.specs.declared.script.Script.{Script}
use Rattle.xc_script.specs.Ask.{Job, handed_on, fresh_job, block_place}
use Rattle.xc_script.specs.Blocks.{passed_blocks, kept_calls}
use Rattle.xc_script.specs.Values.{Variables}
use Rattle.xc_script.specs.Slots.{with_ends}
use Rattle.xc_world.specs.World.{State, beginning, no_handles}
use Rattle.xc_world.specs.Run.{BodyResult, Run, body, run, asked_of}
use Rattle.xc_world.specs.Ends.{remains, with_remains}
use Rattle.xc_world.specs.Opening.{opening_state}
use Rattle.xc_model.specs.WordCalls.{words_behind}

-- a started job, as the journal tells it
pub record Following : Type 0 where
  -- the name of its block
  pub block : List ℕ
  -- its block's place, its next transaction and its variables
  pub job : Job
  -- the number of the first attempt at the next transaction, where there was one
  pub first : Option ℕ
  -- why the attempts at it ended that are to be tried again
  pub failed : List Cause
  -- its last entry was aborted for lack of memory: of a script nothing more is asked; of clients nobody looks at it
  pub starved : Bool
  -- how long the journal was after its last entry, or after that of its starter
  pub since : ℕ

-- the state, the started jobs in the order of their numbers, how many entries led here, and the words, which the
-- stores of committed transactions made, over every host
pub record Progress : Type 0 where
  pub state : State
  pub jobs : List Following
  pub entered : ℕ
  pub words : List ℕ

-- a job of a block before its next transaction is tried
abbrev pub untried : List ℕ → Job → ℕ → Following
untried block job since = record { block = block; job = job; first = None; failed = []; starved = false; since = since }

-- before the first entry
abbrev pub opening_progress : Script → Progress
opening_progress script =
    record {
      state = opening_state script.outline;
      jobs = map (λ name. untried name (fresh_job script (block_place script name)) 0) script.outline.jobs;
      entered = 0;
      words = script.outline.words;
    }

-- ---- an entry run on a state; jobs are numbered from 1
-- a transaction's private state at its begin
abbrev pub private_of : State → ℕ → Private
private_of state job = beginning (unwrap_or (slice_get state.handles (job - 1)) no_handles)

-- an entry's body
abbrev pub body_of : State → Entry → BodyResult
body_of state e = body state.world (private_of state e.job) e.tx (asked_of e.calls e.replies)

-- a committed entry's whole run
abbrev pub run_of : State → Entry → List LateEnd → Run
run_of state e late = run state.world (private_of state e.job) e.tx (asked_of e.calls e.replies) late

-- ---- the jobs that an entry starts
-- the block that a kept call with its end started
abbrev pub started_by_call : Call → LateEnd → List (List ℕ)
started_by_call (XThreadCreate block slot) end.Done = block ∷ []
-- no other call starts one, nor does one that was not done
started_by_call _ _ = []

-- the blocks that kept calls with their ends started
abbrev pub started_blocks : List Call → List LateEnd → List (List ℕ)
started_blocks [] ends = []
started_blocks (c ∷ calls) [] = []
started_blocks (c ∷ calls) (e ∷ ends) = started_by_call c e ++ started_blocks calls ends

-- ---- after a commit: the whole run's world, the job's handles at its end, and the jobs it started
-- with copies of these handles and of its variables, and with all slots unset
abbrev pub with_following : List Following → ℕ → Following → List Following
with_following jobs job f = slice_set jobs (job - 1) f

-- the state, where a job's run started these blocks
abbrev pub committed_state : State → ℕ → Run → List (List ℕ) → State
committed_state state job run blocks =
    record {
      world = run.late.world;
      handles = slice_set state.handles (job - 1) run.body.me.places ++ replicate (length blocks) run.body.me.places;
    }

-- a job of a block that was started by one with these variables
abbrev pub started_from : Script → Variables → List ℕ → Job
started_from script variables block = record { block = block_place script block; next = 0; variables = handed_on script variables }

-- the job of a block that was started
abbrev pub started_following : Script → Job → ℕ → List ℕ → Following
started_following script starter since block =
    untried block (started_from script starter.variables block) since

-- the job after a commit: at its next transaction, where the slots of the kept calls have taken their ends
abbrev pub committed_job : Script → Job → List Call → List Reply → List LateEnd → Job
committed_job script job calls replies late =
    let behind = passed_blocks script job replies in
    record behind { variables = with_ends behind.variables (kept_calls calls replies) late }

-- what a committed entry of a job leads to
abbrev pub progress_after_commit : Script → Progress → Following → Entry → List LateEnd → Progress
progress_after_commit script p f e late =
    let blocks = started_blocks (kept_calls e.calls e.replies) late in
    let job = committed_job script f.job e.calls e.replies late in
    record {
      state = committed_state p.state e.job (run_of p.state e late) blocks;
      jobs = with_following p.jobs e.job (untried f.block job (p.entered + 1)) ++ map (started_following script job (p.entered + 1)) blocks;
      entered = p.entered;
      words = p.words;
    }

-- ---- after an abort: the world with what remains, and the variables of the start
abbrev pub following_abort : ℕ → Following → Entry → Cause → Following
following_abort entered f e cause.Asked = untried f.block (record f.job { next = f.job.next + 1 }) (entered + 1)
following_abort entered f e (cause.Stuck failed) = untried f.block (record f.job { next = f.job.next + 1 }) (entered + 1)
following_abort entered f e cause.NoMemory = record f { starved = true; since = entered + 1 }
following_abort entered f e c = record f { first = Some (unwrap_or f.first e.tx); failed = f.failed ++ c ∷ []; since = entered + 1 }

-- what an aborted entry of a job leads to
abbrev pub progress_after_abort : Progress → Following → Entry → Report → Progress
progress_after_abort p f e report =
    record {
      state = record p.state { world = with_remains p.state.world (remains report.records) };
      jobs = with_following p.jobs e.job (following_abort p.entered f e report.cause);
      entered = p.entered;
      words = p.words;
    }

-- what an entry with this outcome leads to
abbrev pub after_outcome : Script → Progress → Following → Entry → Outcome → Progress
after_outcome script p f e (Committed late) = progress_after_commit script p f e late
after_outcome script p f e (Aborted report) = progress_after_abort p f e report

-- the job that an entry is of
abbrev pub following_of : Progress → Entry → Option Following
following_of p e = slice_get p.jobs (e.job - 1)

-- the same, where its job is started
abbrev pub after_following : Script → Progress → Entry → Option Following → Progress
after_following script p e None = p
after_following script p e (Some f) = after_outcome script p f e e.outcome

-- the words after calls that ended so
abbrev pub words_left : List ℕ → List Call → Outcome → List ℕ
words_left words calls (Committed late) = words_behind words calls
words_left words calls (Aborted report) = words

-- after one entry more
abbrev pub after_entry : Script → Progress → Entry → Progress
after_entry script p e =
    record (after_following script p e (following_of p e)) { entered = p.entered + 1; words = words_left p.words e.calls e.outcome }

-- what a whole journal has led to
abbrev pub progress_of : Script → List Entry → Progress
progress_of script journal = fold (after_entry script) (opening_progress script) journal
