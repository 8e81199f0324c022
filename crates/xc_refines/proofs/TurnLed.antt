-- What one entry more leads to.
use Rattle.std.proofs.Common.{◌≡◌, ap₂, ℕ, ◌+◌, ◌-◌, List, [], ◌∷◌, ◌++◌, length, ap, sym, ◌∙◌, arith, Some}
use Rattle.std.specs.Prelude.{map, replicate, slice_get, slice_set, unwrap_or}
use Rattle.std.proofs.lemmas.List.Sums.{fold_push}
use Rattle.xc_data.specs.declared.call.CallWithAnswer.{CallWithAnswer}
use Rattle.xc_data.specs.declared.entry.Cause.{Cause}
use Rattle.xc_data.specs.declared.entry.Entry.{Entry}
use Rattle.xc_data.specs.declared.entry.Outcome.{Outcome}
use Rattle.xc_data.specs.declared.entry.Outcome.TheVariants.{Committed, Aborted}
use Rattle.xc_data.specs.declared.private.Private.{Private}
use Rattle.xc_data.specs.declared.private.Place.{Place as Handle}
use Rattle.xc_text.specs.declared.script.Script.{Script}
use Rattle.xc_world.specs.World.{beginning, no_handles}
use Rattle.xc_world.specs.Run.{asked_of, body, run}
use Rattle.xc_model.specs.Progress.{Following, Progress, private_of}
use Rattle.xc_model.specs.Progress.{after_outcome, after_following, words_left, after_entry, opening_progress, progress_of}
use Rattle.xc_model.specs.Moment.{TxView, JobView}
use Rattle.xc_model.specs.LateCalls.{started_late}
use Rattle.xc_data.specs.Calls.{thread_asked, thread_in}
use Rattle.xc_model.specs.Entering.{entry_of, started_job as seen_started}
use Rattle.xc_model.proofs.Laws.{started_same}
use Rattle.xc_script.specs.Blocks.{kept_calls}
use Rattle.xc_refines.proofs.Grown.{started_handles}
use Rattle.std.proofs.lemmas.List.{map-append}
use Rattle.xc_flight.specs.Turns.{after_commit as world_after_commit, after_abort as world_after_abort}
use Rattle.xc_refines.specs.InFlight.{flown, ran_at}
use Rattle.xc_data.proofs.Laws.{get_map, map_set, map_set_same}

-- one entry more
pub led-more : (script : Script) (journal : List Entry) (e : Entry)
    → progress_of script (journal ++ e ∷ []) ≡ after_entry script (progress_of script journal) e
led-more script journal e = fold_push (after_entry script) (opening_progress script) journal e

-- places count from 0, jobs from 1
back_one : (at : ℕ) → at + 1 - 1 ≡ at
back_one at = omega arith

abbrev job_handles : JobView → List Handle
job_handles job = job.me.places

-- ---- an entry of the job in this place
module _ (script : Script) (p : Progress) (f : Following) (jobs : List JobView) (at : ℕ) (job : JobView) (tx : TxView)
    (there : slice_get jobs at ≡ Some job) (following : slice_get p.jobs at ≡ Some f) (fresh : job.me ≡ beginning job.me.places)
    (handles : p.state.handles ≡ map (λ (job : JobView). job.me.places) jobs) where
  -- the journal of its job so far is found
  led_by : (outcome : Outcome) → after_entry script p (entry_of tx at outcome)
      ≡ record (after_outcome script p f (entry_of tx at outcome) outcome) { entered = p.entered + 1; words = words_left p.words tx.calls outcome }
  led_by outcome =
      let e = entry_of tx at outcome in
      ap (λ o. record (after_following script p e o) { entered = p.entered + 1; words = words_left p.words tx.calls outcome })
      (ap (slice_get p.jobs) (back_one at) ∙ following)

  -- its private state at its begin
  private_is : private_of p.state (at + 1) ≡ job.me
  private_is = (λ i. beginning (unwrap_or (slice_get (handles i) (back_one at i)) no_handles))
      ∙ ap (λ o. beginning (unwrap_or o no_handles)) (get_map job_handles jobs at job there) ∙ sym fresh

  -- ---- of a commit
  abbrev committed : Entry
  committed = entry_of tx at (Committed tx.ends)

  -- the world is its run's
  pub commit_world : (us : List CallWithAnswer) → (after_entry script p committed).state.world ≡ world_after_commit p.state.world (flown job.me us tx)
  commit_world us = ap (λ (q : Progress). q.state.world) (led_by (Committed tx.ends))
      ∙ ap (λ m. (run p.state.world m tx.number (asked_of tx.calls tx.replies) tx.ends).late.world) private_is

  -- the handles are those of its end
  pub commit_handles : (job' : JobView) → map thread_in tx.late ≡ map thread_asked (kept_calls tx.calls tx.replies)
      → (ran_at p.state.world job.me tx).me ≡ tx.me
      → job'.me.places ≡ tx.me.places → (after_entry script p committed).state.handles
      ≡ map (λ (job : JobView). job.me.places) (slice_set jobs at job' ++ map (seen_started script job') (started_late tx.late tx.ends))
  commit_handles job' kept me places =
      let end : Private → List Handle = λ m. (body p.state.world m tx.number (asked_of tx.calls tx.replies)).me.places in
      let mine : end (private_of p.state (at + 1)) ≡ job'.me.places = ap end private_is ∙ ap (λ (m : Private). m.places) me ∙ sym places in
      ap (λ (q : Progress). q.state.handles) (led_by (Committed tx.ends))
      ∙ (λ i. slice_set (handles i) (back_one at i) (mine i)
      ++ replicate (length (sym (started_same tx.late (kept_calls tx.calls tx.replies) tx.ends kept) i)) (mine i))
      ∙ ap₂ (λ a b. a ++ b) (sym (map_set job_handles jobs at job')) (started_handles script job' (started_late tx.late tx.ends))
      ∙ sym (map-append job_handles (slice_set jobs at job') (map (seen_started script job') (started_late tx.late tx.ends)))

  -- ---- of an abort
  abbrev aborted : Cause → Entry
  aborted c = entry_of tx at (Aborted (record { cause = c; records = tx.undo.ended }))

  -- the world has what remains
  pub abort_world : (us : List CallWithAnswer) (c : Cause)
      → (after_entry script p (aborted c)).state.world ≡ world_after_abort p.state.world (flown job.me us tx)
  abort_world us c = ap (λ (q : Progress). q.state.world) (led_by (Aborted (record { cause = c; records = tx.undo.ended })))

  -- the handles are those of its begin
  pub abort_handles : (c : Cause) (job' : JobView) → job'.me ≡ job.me
      → (after_entry script p (aborted c)).state.handles ≡ map (λ (job : JobView). job.me.places) (slice_set jobs at job')
  abort_handles c job' me = ap (λ (q : Progress). q.state.handles) (led_by (Aborted (record { cause = c; records = tx.undo.ended }))) ∙ handles
      ∙ sym (map_set_same job_handles jobs at job' job there (ap (λ (m : Private). m.places) me))
