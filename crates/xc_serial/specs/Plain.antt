-- The text that a script gives where its jobs run one after another on the plain machine, and no call meets a fault.
use Rattle.std.specs.Prelude.{ℕ, zero, suc, ◌+◌, List, [], ◌∷◌, length, map, position, slice_get, is_some, Option, if◌then◌else◌}
use Rattle.std.specs.declared.option.Option.TheVariants.{None, Some}
use Rattle.xc_data.specs.Claims.{held_of}
use Rattle.xc_data.specs.declared.call.Answer.TheVariants as answer
use Rattle.xc_data.specs.declared.call.Call.{Call}
use Rattle.xc_data.specs.declared.call.CallWithAnswer.{CallWithAnswer}
use Rattle.xc_data.specs.declared.call.Reply.{Reply}
use Rattle.xc_data.specs.declared.entry.Cause.TheVariants as cause
use Rattle.xc_data.specs.declared.entry.Entry.{Entry}
use Rattle.xc_data.specs.declared.entry.JobEnd.{JobEnd}
use Rattle.xc_data.specs.declared.entry.JobEnd.TheVariants as job_end
use Rattle.xc_data.specs.declared.entry.JobLine.{JobLine}
use Rattle.xc_data.specs.declared.entry.Outcome.{Outcome}
use Rattle.xc_data.specs.declared.entry.Outcome.TheVariants.{Committed, Aborted}
use Rattle.xc_data.specs.declared.undo.Undo.{Undo}
use Rattle.xc_data.specs.declared.undo.UndoEnd.TheVariants.{Undone}
use Rattle.xc_print.specs.Text.{rendered}
use Rattle.xc_script.specs.Asking.{asks}
use Rattle.xc_script.specs.Blocks.{BlockWalk, replied, block_from}
use Rattle.xc_script.specs.Ask.{next_body}
use Rattle.xc_script.specs.declared.ask.Ask.{Ask}
use Rattle.xc_script.specs.declared.ask.Ask.TheVariants as ask
use Rattle.xc_model.specs.Progress.{Following, Progress, opening_progress, private_of, after_entry, progress_of}
use Rattle.xc_model.specs.Asked.{next_of}
use Rattle.xc_text.specs.declared.script.Script.{Script}
use Rattle.xc_world.specs.Act.{act}
use Rattle.xc_world.specs.Run.{BlockState, Run, block_step, opens, run, asked_of}

-- a call and its reply
abbrev pub Replied : Type 0
Replied = Call × Reply

-- a call without a fault
abbrev pub without_fault : Call → CallWithAnswer
without_fault call = record { call = call; answer = answer.Fine }

-- a call that is asked is done, and then what comes after it; a commit and an abort end the body
abbrev pub made : ℕ → BlockState → (BlockState → Reply → List Replied) → Ask → List Replied
made tx s more (ask.Call call) =
    let reply = (act s.now.world s.now.me tx call answer.Fine).reply in
    (call, reply) ∷ more (block_step tx s (without_fault call)) reply
made tx s more _ = []

-- the calls of a body of at most so many statements
abbrev pub calls_from : ℕ → ℕ → BlockState → BlockWalk → List Replied
calls_from zero tx s b = []
calls_from (suc n) tx s b =
    made tx s (λ (after : BlockState) (reply : Reply). calls_from n tx after (replied b reply)) (asks b.walk)

-- how a transaction ends that asks this after its calls; no late call and no compensation meets a fault
abbrev pub outcome_of : Run → Ask → Outcome
outcome_of run ask.Commit = Committed run.late.ends
outcome_of run _ = Aborted (record { cause = cause.Asked; records = map (λ (undo : Undo). (undo, Undone 0)) run.body.trail })

-- the entry of a job's next transaction, begun at this place of the journal
abbrev pub entry_at : Script → ℕ → Progress → ℕ → Following → Entry
entry_at script place p job f =
    let begin = block_from script f.job in
    let me = private_of p.state job in
    let done = calls_from (length begin.walk.left) (place + 1) (opens p.state.world me) begin in
    let calls = map (λ (c : Replied). c.0) done in
    let replies = map (λ (c : Replied). c.1) done in
    let whole = run p.state.world me (place + 1) (asked_of calls replies) [] in
    record {
      tx = place + 1;
      job = job;
      rank = place + 1;
      began = place;
      calls = calls;
      replies = replies;
      held = held_of whole.body.touched;
      outcome = outcome_of whole (next_of script f replies);
    }

-- the place of the first job that has a transaction left
abbrev pub next_place : Script → List Following → Option ℕ
next_place script jobs = position (λ (f : Following). is_some (next_body script f.job)) jobs

-- the same of this job, whose place is told, where it is started
abbrev pub entry_in : Script → ℕ → Progress → ℕ → Option Following → Option Entry
entry_in script place p at None = None
entry_in script place p at (Some f) = Some (entry_at script place p (at + 1) f)

-- one more entry, where there is one, and then what comes after it
abbrev pub journal_from : Script → Progress → (Progress → List Entry) → Option Entry → List Entry
journal_from script p more None = []
journal_from script p more (Some e) = e ∷ more (after_entry script p e)

-- one more entry by the job at this place, where one is next, and then what comes after it
abbrev pub journal_with : Script → ℕ → Progress → (Progress → List Entry) → Option ℕ → List Entry
journal_with script place p more None = []
journal_with script place p more (Some at) = journal_from script p more (entry_in script place p at (slice_get p.jobs at))

-- the entries from a place of the journal on, at most so many
abbrev pub plain_from : ℕ → Script → ℕ → Progress → List Entry
plain_from zero script place p = []
plain_from (suc n) script place p =
    journal_with script place p (λ (after : Progress). plain_from n script (place + 1) after) (next_place script p.jobs)

-- the journal of the jobs one after another: an entry for each transaction of each job, until there are 10,000
abbrev pub plain_journal : Script → List Entry
plain_journal script = plain_from 10000 script 0 (opening_progress script)

-- how a job ended that stands so after that journal: the journal was full where a transaction is left
abbrev pub plain_job_end : Script → Following → JobEnd
plain_job_end script f = if is_some (next_body script f.job) then job_end.JournalFull else job_end.Done

-- each started job with its end
abbrev pub plain_lines : Script → List Following → List JobLine
plain_lines script jobs = map (λ (f : Following). record { block = f.block; end = plain_job_end script f }) jobs

-- the text of that journal, of its jobs and of the words that it leads to, without lines on kept data
abbrev pub plain_text : Script → List ℕ
plain_text script =
    let journal = plain_journal script in
    let behind = progress_of script journal in
    rendered journal (plain_lines script behind.jobs) behind.state.world.words []
