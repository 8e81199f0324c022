-- A transaction that ends, and its job after it.
use Rattle.std.proofs.Common.{◌≡◌, ◌+◌, ◌++◌, ◌∷◌, [], ℕ, List, ap, append_assoc, refl, sym, ◌∙◌}
use Rattle.std.specs.Prelude.{Option, map, take}
use Rattle.std.specs.declared.option.Option.TheVariants.{None, Some}
use Rattle.xc_data.specs.declared.undo.Undo.{Undo}
use Rattle.xc_data.specs.declared.entry.Cause.{Cause}
use Rattle.xc_data.specs.declared.entry.Cause.TheVariants as cause
use Rattle.xc_data.specs.declared.entry.Turn.{Turn}
use Rattle.xc_data.specs.declared.entry.Turn.TheVariants as turn
use Rattle.xc_station.specs.Moments.{busy_counted}
use Rattle.xc_data.specs.declared.entry.Outcome.TheVariants.{Committed, Aborted}
use Rattle.xc_data.specs.declared.private.Private.{Private}
use Rattle.xc_compensate.specs.Records.{AtHost, IsTried, Records}
use Rattle.xc_deferred.specs.Queue.{Queue}
use Rattle.xc_script.specs.declared.ask.Ask.{Ask}
use Rattle.xc_script.specs.Position.{Position, at_begin}
use Rattle.xc_script.specs.Blocks.{kept_calls}
use Rattle.xc_script.specs.Slots.{with_ends}
use Rattle.xc_host.specs.Model.{HostModel}
use Rattle.xc_world.specs.Ends.{Ending}
use Rattle.xc_world.specs.World.{beginning}
use Rattle.xc_model.specs.declared.phase.Attempts.{Attempts}
use Rattle.xc_model.specs.declared.phase.Phase.{Phase}
use Rattle.xc_model.specs.declared.phase.Phase.TheVariants.{Committing, Undoing}
use Rattle.xc_model.specs.Moment.{TxView, JobView, Doing, Idle, Active, with_queue}
use Rattle.xc_model.specs.Entering.{behind_abort, behind_commit, entry_of}
use Rattle.xc_model.specs.Movers.{with_tx}
use Rattle.xc_station.specs.declared.job.Activity.{Activity}
use Rattle.xc_station.specs.declared.job.Activity.TheVariants as activity
use Rattle.xc_station.specs.declared.job.Job.{Job}
use Rattle.xc_station.specs.declared.tx.Saved.{Saved}
use Rattle.xc_station.specs.declared.tx.Tx.{Tx}
use Rattle.xc_station.specs.Handed.{handed_tx}
use Rattle.xc_station.specs.Jobs.{begun_of, doing_of, outcome_in, doing_view, job_view, saved_in, saved_view, tx_view}

active_or : TxView → Doing → TxView
active_or none (Active tx) = tx
active_or none _ = none

-- a job has one active transaction at most
pub same_active : (t u : TxView) → Active t ≡ Active u → t ≡ u
unfolding active_or
same_active t u is = ap (active_or t) is

cause_or : Cause → Phase → Cause
cause_or none (Undoing c) = c
cause_or none _ = none

-- a transaction undoes for one cause
pub same_cause : (c d : Cause) → Undoing c ≡ Undoing d → c ≡ d
unfolding cause_or
same_cause c d is = ap (cause_or c) is

-- the active transaction of a job is the one that lies in it
its_tx : (t : Tx) (a : Activity) (tx : TxView) → doing_view t a ≡ Active tx → tx_view t ≡ tx
its_tx t activity.Active tx is = same_active (tx_view t) tx is
its_tx t activity.Idle tx is = cc
its_tx t activity.Starved tx is = cc
its_tx t (activity.Ended end) tx is = cc

-- it is the active one again, whatever changed in it
pub active_again : (t u : Tx) (a : Activity) (tx : TxView) → doing_view t a ≡ Active tx → doing_view u a ≡ Active (tx_view u)
active_again t u activity.Active tx is = refl
active_again t u activity.Idle tx is = cc
active_again t u activity.Starved tx is = cc
active_again t u (activity.Ended end) tx is = cc

-- of a whole job
pub its_active : (job : Job) (tx : TxView) → doing_of job ≡ Active tx → tx_view job.tx ≡ tx
its_active job tx is = its_tx job.tx job.activity tx is

-- so the job is active with it
pub active_with_job : (job : Job) (tx : TxView) → doing_of job ≡ Active tx → doing_of job ≡ Active (tx_view job.tx)
active_with_job job tx is = active_again job.tx job.tx job.activity tx is

-- a job that stands elsewhere, with its transaction further on
pub moves_on : (job : Job) (tx : TxView) (place : Position) (now : Tx) → doing_of job ≡ Active tx → begun_of now ≡ begun_of job.tx
    → with_tx (job_view job) place (tx_view now) ≡ job_view (record job { place = place; tx = now })
moves_on job tx place now is kept =
    let doing = sym (active_again job.tx now job.activity tx is) in
    λ i. record (job_view job) { me = sym kept i; place = place; doing = doing i }

-- the same, with this handed in
pub moves_handed : (job : Job) (tx : TxView) (handed : Option Ask) (place : Position) (now : Tx) → doing_of job ≡ Active tx
    → begun_of now ≡ begun_of job.tx
    → handed_tx (job_view job) handed place (tx_view now) ≡ job_view (record job { handed = handed; place = place; tx = now })
moves_handed job tx handed place now is kept =
    let doing = sym (active_again job.tx now job.activity tx is) in
    λ i. record (job_view job) { me = sym kept i; handed = handed; place = place; doing = doing i }

-- a job that counts a wait does what it did
pub counted_doing : (answer : Turn) (job : JobView) → (busy_counted answer job).doing ≡ job.doing
counted_doing (turn.Busy object holder) job = refl
counted_doing turn.Went job = refl
counted_doing turn.NoMemory job = refl
counted_doing (turn.Ended end) job = refl

-- ---- what an open block's save keeps of it
-- all records, with an end and without, in the order of the calls
abbrev records_in : Records → List Undo
records_in undo = undo.pending ++ map (λ (e : Ending). e.0) undo.ended

-- a record that got its end stands where it stood
pub tried_same : {H : Type 0} (model : HostModel H) (tries : ℕ) (old new : AtHost H) → IsTried model tries old new
    → records_in new.undo ≡ records_in old.undo
tried_same model tries old new tried =
    let older = tried.older in
    ap records_in tried.stack
    ∙ sym (append_assoc older (tried.tried ∷ []) (map (λ (e : Ending). e.0) old.undo.ended))
    ∙ ap (λ (us : List Undo). us ++ map (λ (e : Ending). e.0) old.undo.ended) (sym tried.was)

-- so its save keeps the same of the records
undo_saved : (t : Tx) (undo : Records) → records_in undo ≡ records_in t.undo → (o : Option Saved)
    → saved_in (record t { undo = undo }) o ≡ saved_in t o
undo_saved t undo same None = refl
undo_saved t undo same (Some kept) = λ i. Some (record (saved_view t kept) { trail = take kept.records (same i) })

-- and of late calls whose ends alone went on
late_saved : (t : Tx) (queue : Queue) → queue.calls ≡ t.late.calls → (o : Option Saved) → saved_in (record t { late = queue }) o ≡ saved_in t o
late_saved t queue same None = refl
late_saved t queue same (Some kept) = λ i. Some (record (saved_view t kept) { late = take kept.late (same i) })

-- a job whose transaction's records got ends
pub undo_behind : (job : Job) (tx : TxView) (undo : Records) → doing_of job ≡ Active tx → records_in undo ≡ records_in job.tx.undo
    → job_view (record job { tx = record job.tx { undo = undo } }) ≡ with_tx (job_view job) job.place (record tx { undo = undo })
undo_behind job tx undo is same =
    sym (moves_on job tx job.place (record job.tx { undo = undo }) is refl)
    ∙ (λ i. with_tx (job_view job) job.place (record (tx_view job.tx) { undo = undo; saved = undo_saved job.tx undo same job.tx.saved i }))
    ∙ ap (λ (t : TxView). with_tx (job_view job) job.place (record t { undo = undo })) (its_active job tx is)

-- a job whose late calls got ends
pub late_behind : (job : Job) (tx : TxView) (queue : Queue) → doing_of job ≡ Active tx → queue.calls ≡ job.tx.late.calls
    → job_view (record job { tx = record job.tx { late = queue } }) ≡ with_tx (job_view job) job.place (with_queue tx queue)
late_behind job tx queue is same =
    sym (moves_on job tx job.place (record job.tx { late = queue }) is refl)
    ∙ (λ i. with_tx (job_view job) job.place (record (with_queue (tx_view job.tx) queue) { saved = late_saved job.tx queue same job.tx.saved i }))
    ∙ ap (λ (t : TxView). with_tx (job_view job) job.place (with_queue t queue)) (its_active job tx is)

-- ---- a transaction's end
idle_abort : (job : JobView) (tx : TxView) (c : Cause) → behind_abort (record job { handed = None; busy = 0; doing = Idle }) tx c ≡ behind_abort job tx c
idle_abort job tx cause.Asked = refl
idle_abort job tx cause.NoMemory = refl
idle_abort job tx (cause.Stuck failed) = refl
idle_abort job tx _ = refl

-- a job after an abort, without its transaction before
pub abort_behind : (old between new : JobView) (tx : TxView) (b c : Cause) → between ≡ record old { handed = None; busy = 0; doing = Idle } → b ≡ c
    → new ≡ behind_abort between tx b → new ≡ behind_abort old tx c
abort_behind old between new tx b c taken cause gone =
    gone ∙ ap (λ (job : JobView). behind_abort job tx b) taken ∙ idle_abort old tx b ∙ ap (behind_abort old tx) cause

-- its entry
pub abort_entry : (t tx : TxView) (at : ℕ) (c : Cause) → t ≡ tx → tx.phase ≡ Undoing c
    → entry_of t at (outcome_in t.phase t.undo.ended t.ends) ≡ entry_of tx at (Aborted (record { cause = c; records = tx.undo.ended }))
abort_entry t tx at c same phase =
    ap (λ (u : TxView). entry_of u at (outcome_in u.phase u.undo.ended u.ends)) same
    ∙ ap (λ (p : Phase). entry_of tx at (outcome_in p tx.undo.ended tx.ends)) phase

-- and that of a commit
pub commit_entry : (t tx : TxView) (at : ℕ) → t ≡ tx → tx.phase ≡ Committing
    → entry_of t at (outcome_in t.phase t.undo.ended t.ends) ≡ entry_of tx at (Committed tx.ends)
commit_entry t tx at same phase =
    ap (λ (u : TxView). entry_of u at (outcome_in u.phase u.undo.ended u.ends)) same
    ∙ ap (λ (p : Phase). entry_of tx at (outcome_in p tx.undo.ended tx.ends)) phase

-- a job after a commit
pub commit_behind : (old : JobView) (t tx : TxView) (me : Private) (place : Position) (attempts : Option Attempts) → t ≡ tx → me ≡ beginning t.me.places
    → place ≡ at_begin (record {
      block = old.place.block;
      next = old.place.next + 1;
      variables = with_ends old.place.variables (kept_calls t.calls t.replies) t.ends;
    })
    → attempts ≡ None → record old { me = me; place = place; handed = None; attempts = attempts; busy = 0; doing = Idle } ≡ behind_commit old tx
commit_behind old t tx me place attempts same renewed passed none =
    let renewed' : me ≡ beginning tx.me.places = renewed ∙ ap (λ (u : TxView). beginning u.me.places) same in
    let passed' = passed ∙ ap (λ (u : TxView). at_begin (record {
      block = old.place.block;
      next = old.place.next + 1;
      variables = with_ends old.place.variables (kept_calls u.calls u.replies) u.ends;
    })) same in
    λ i. record old { me = renewed' i; place = passed' i; handed = None; attempts = none i; busy = 0; doing = Idle }
