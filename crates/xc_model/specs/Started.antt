-- What is true between two turns of the jobs that were started.
use Rattle.std.specs.Prelude.{◌≡◌, ℕ, ◌≤◌, Bool, true, Contains, List, ◌++◌, flat_map, is_some, length, map}
use Rattle.std.specs.List.{list_any}
use Rattle.xc_data.specs.Calls.{thread_in}
use Rattle.xc_data.specs.Claims.{owned}
use Rattle.xc_data.specs.declared.call.LateCall.{LateCall}
use Rattle.xc_data.specs.declared.object.Object.TheVariants as object
use Rattle.xc_text.specs.declared.script.Script.{Script}
use Rattle.xc_model.specs.LateCalls.{started_late}
use Rattle.xc_model.specs.Starts.{AreStarts}
use Rattle.xc_model.specs.Movers.{IsActiveAt}
use Rattle.xc_model.specs.Moment.{TxView, JobView, Moment, actives}

-- the blocks of the jobs that this transaction has started, which are live from its entry on
abbrev pub started_by : TxView → List (List ℕ)
started_by tx = started_late tx.late tx.ends

-- how many
abbrev pub start_count : TxView → ℕ
start_count tx = length (started_by tx)

-- it starts a job where it is done
abbrev pub is_start : LateCall → Bool
is_start call = is_some (thread_in call)

-- the transaction keeps a call for its commit that starts a job
abbrev pub keeps_start : TxView → Bool
keeps_start tx = list_any is_start tx.late

-- the blocks of jobs, in their order
abbrev pub blocks : List JobView → List (List ℕ)
blocks jobs = map (λ (job : JobView). job.block) jobs

-- the late calls of this transaction that start jobs ended so far as they must, from these blocks of started jobs on
abbrev pub HasStartEnds : Script → List (List ℕ) → TxView → Type 0
HasStartEnds script was tx = AreStarts script was (map thread_in tx.late) tx.ends

-- the started jobs are those that are live or have ended, and after them those that active transactions have started; no more
-- than 1,000. Whoever keeps a start holds the jobs exclusively, so that one transaction at most has started some
pub record AreStarted (script : Script) (now : Moment) : Type 0 where
  pub order : now.started ≡ blocks now.jobs ++ flat_map started_by (actives now.jobs)
  pub few : length now.started ≤ 1000
  pub holds : (j : ℕ) (tx : TxView) → IsActiveAt now.jobs j tx → keeps_start tx ≡ true → Contains (owned tx.held) object.Jobs
  -- each start has its end by the script's blocks and by how many were started before it
  pub starts : (j : ℕ) (tx : TxView) → IsActiveAt now.jobs j tx → HasStartEnds script (blocks now.jobs) tx
