-- The entry of a transaction that ends, and its job after it.
use Rattle.std.specs.Prelude.{ℕ, ◌+◌, List}
use Rattle.std.specs.Prelude.{Option, map}
use Rattle.std.specs.declared.option.Option.TheVariants.{None, Some}
use Rattle.xc_data.specs.declared.entry.Cause.{Cause}
use Rattle.xc_data.specs.declared.entry.Cause.TheVariants as cause
use Rattle.xc_data.specs.declared.entry.Entry.{Entry}
use Rattle.xc_data.specs.declared.entry.Outcome.{Outcome}
use Rattle.xc_text.specs.declared.script.Script.{Script}
use Rattle.xc_script.specs.Position.{at_begin}
use Rattle.xc_script.specs.Slots.{with_ends}
use Rattle.xc_script.specs.Blocks.{kept_calls}
use Rattle.xc_world.specs.World.{beginning}
use Rattle.xc_model.specs.declared.phase.Attempts.{Attempts}
use Rattle.xc_model.specs.LateCalls.{started_late}
use Rattle.xc_model.specs.Progress.{started_from}
use Rattle.xc_model.specs.Moment.{TxView, JobView, Idle, Starved}
use Rattle.xc_model.specs.Moment.{failures}

-- ---- what a transaction leaves at its end
-- the entry of a transaction that ended so, of the job in this place
abbrev pub entry_of : TxView → ℕ → Outcome → Entry
entry_of tx at outcome =
    record {
      tx = tx.number;
      job = at + 1;
      rank = tx.rank;
      began = tx.began;
      calls = tx.calls;
      replies = tx.replies;
      held = tx.held;
      outcome = outcome;
    }

-- ---- entries
-- after a commit a job is at its next transaction, with the variables and the handles of this one's end, and where the
-- slots of its kept calls have taken their ends
abbrev pub behind_commit : JobView → TxView → JobView
behind_commit job tx =
    record {
      block = job.block;
      me = beginning tx.me.places;
      place = at_begin (record {
        block = job.place.block;
        next = job.place.next + 1;
        variables = with_ends job.place.variables (kept_calls tx.calls tx.replies) tx.ends;
      });
      handed = None;
      attempts = None;
      busy = 0;
      doing = Idle;
    }

-- the attempts with one more
abbrev pub attempts_with : Option Attempts → TxView → Cause → Attempts
attempts_with attempts tx c = record { first = tx.rank; failed = failures attempts + 1; last = c }

-- after an abort the handles and the variables are those of the start. A transaction that aborted itself is passed;
-- one that met a holder or was revoked is tried again; for lack of memory a script is asked nothing more, and a client begins
-- anew after its next turn
abbrev pub behind_abort : JobView → TxView → Cause → JobView
behind_abort job tx cause.Asked =
    record job {
      place = at_begin (record { block = job.place.block; next = job.place.next + 1; variables = job.place.begun });
      handed = None;
      attempts = None;
      busy = 0;
      doing = Idle;
    }
behind_abort job tx (cause.Stuck failed) =
    record job {
      place = at_begin (record { block = job.place.block; next = job.place.next + 1; variables = job.place.begun });
      handed = None;
      attempts = None;
      busy = 0;
      doing = Idle;
    }
behind_abort job tx cause.NoMemory =
    record job {
      place = at_begin (record { block = job.place.block; next = job.place.next; variables = job.place.begun });
      handed = None;
      busy = 0;
      doing = Starved;
    }
behind_abort job tx c =
    record job {
      place = at_begin (record { block = job.place.block; next = job.place.next; variables = job.place.begun });
      handed = None;
      attempts = Some (attempts_with job.attempts tx c);
      busy = 0;
      doing = Idle;
    }

-- a job that was started: it begins with its starter's handles and variables after the commit
abbrev pub started_job : Script → JobView → List ℕ → JobView
started_job script starter block =
    record {
      block = block;
      me = starter.me;
      place = at_begin (started_from script starter.place.variables block);
      handed = None;
      attempts = None;
      busy = 0;
      doing = Idle;
    }

-- the jobs that a transaction started
abbrev pub started_jobs : Script → JobView → TxView → List JobView
started_jobs script job tx = map (started_job script (behind_commit job tx)) (started_late tx.late tx.ends)
