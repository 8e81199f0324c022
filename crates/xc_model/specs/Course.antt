-- Where a journal leads on the plain machine. No script is asked.
use Rattle.std.specs.Prelude.{ℕ, ◌+◌, ◌-◌, Bool, true, false, List, [], ◌∷◌, ◌++◌, map, slice_get, slice_set, Option, unwrap_or}
use Rattle.std.specs.declared.option.Option.TheVariants.{None, Some}
use Rattle.xc_data.specs.declared.call.LateEnd.{LateEnd}
use Rattle.xc_data.specs.declared.entry.Cause.{Cause}
use Rattle.xc_data.specs.declared.entry.Cause.TheVariants as cause
use Rattle.xc_data.specs.declared.entry.Entry.{Entry}
use Rattle.xc_data.specs.declared.entry.Outcome.{Outcome}
use Rattle.xc_data.specs.declared.entry.Outcome.TheVariants.{Committed, Aborted}
use Rattle.xc_data.specs.declared.entry.Report.{Report}
use Rattle.xc_data.specs.declared.script.Outline.{Outline}
use Rattle.xc_script.specs.Blocks.{kept_calls}
use Rattle.xc_world.specs.Ends.{remains, with_remains}
use Rattle.xc_world.specs.Opening.{opening_state}
use Rattle.xc_world.specs.World.{State}
use Rattle.xc_model.specs.Progress.{run_of, started_blocks, committed_state, words_left}

-- a started job, as the journal tells it: the name of its block, the number of the first attempt at its next transaction, where
-- there was one, and why attempts at it ended that are to be tried again
pub record Standing : Type 0 where
  pub block : List ℕ
  pub first : Option ℕ
  pub failed : List Cause
  -- its last entry was aborted for lack of memory: of a script nothing more is asked; of clients nobody looks at it
  pub starved : Bool
  -- how long the journal was after its last entry, or after that of its starter
  pub since : ℕ

-- the plain machine's state, the started jobs in the order of their numbers, how many entries led here, and the words, which the
-- stores of committed transactions made, over every host
pub record Course : Type 0 where
  pub state : State
  pub jobs : List Standing
  pub entered : ℕ
  pub words : List ℕ

-- a job of this block before its next transaction is tried
abbrev pub standing_anew : List ℕ → ℕ → Standing
standing_anew block since = record { block = block; first = None; failed = []; starved = false; since = since }

-- before the first entry
abbrev pub opening_course : Outline → Course
opening_course outline =
    record {
      state = opening_state outline;
      jobs = map (λ name. standing_anew name 0) outline.jobs;
      entered = 0;
      words = outline.words;
    }

-- a commit: the whole run's world, the handles of its end, and the jobs that it started
abbrev pub course_commit : Course → Standing → Entry → List LateEnd → Course
course_commit c f e late =
    let blocks = started_blocks (kept_calls e.calls e.replies) late in
    let since = c.entered + 1 in
    record {
      state = committed_state c.state e.job (run_of c.state e late) blocks;
      jobs = slice_set c.jobs (e.job - 1) (standing_anew f.block since) ++ map (λ block. standing_anew block since) blocks;
      entered = c.entered;
      words = c.words;
    }

-- an abort that was asked for, or a block that got stuck, is the end of its transaction; want of memory that of a script's job; any
-- other is tried again
abbrev pub standing_abort : ℕ → Standing → Entry → Cause → Standing
standing_abort entered f e cause.Asked = standing_anew f.block (entered + 1)
standing_abort entered f e (cause.Stuck failed) = standing_anew f.block (entered + 1)
standing_abort entered f e cause.NoMemory = record f { starved = true; since = entered + 1 }
standing_abort entered f e c = record f { first = Some (unwrap_or f.first e.tx); failed = f.failed ++ c ∷ []; since = entered + 1 }

-- the world with what remains
abbrev pub course_abort : Course → Standing → Entry → Report → Course
course_abort c f e report =
    record {
      state = record c.state { world = with_remains c.state.world (remains report.records) };
      jobs = slice_set c.jobs (e.job - 1) (standing_abort c.entered f e report.cause);
      entered = c.entered;
      words = c.words;
    }

-- what an entry with this outcome leads to
abbrev pub course_outcome : Course → Standing → Entry → Outcome → Course
course_outcome c f e (Committed late) = course_commit c f e late
course_outcome c f e (Aborted report) = course_abort c f e report

-- the job that an entry is of
abbrev pub standing_of : Course → Entry → Option Standing
standing_of c e = slice_get c.jobs (e.job - 1)

-- what an entry leads to, where its job is started
abbrev pub course_standing : Course → Entry → Option Standing → Course
course_standing c e None = c
course_standing c e (Some f) = course_outcome c f e e.outcome

-- after one entry more
abbrev pub after_course : Course → Entry → Course
after_course c e =
    record (course_standing c e (standing_of c e)) { entered = c.entered + 1; words = words_left c.words e.calls e.outcome }
