-- Each row of the table of turns, from one moment of a station to the next.
use Rattle.std.proofs.Common.{◌≡◌, ℕ, ◌+◌, ◌≤◌, List, [], ◌∷◌, ◌++◌, length, refl, ap, sym, ◌∙◌, subst, arith, IsTrue}
use Rattle.std.proofs.lemmas.List.{length-append, length-map, map-append}
use Rattle.std.specs.Prelude.{Bool, true, false, slice_get, slice_set}
use Rattle.std.specs.declared.option.Option.TheVariants.{None, Some}
use Rattle.xc_data.specs.declared.call.LateCall.{LateCall}
use Rattle.xc_data.specs.declared.call.LateCall.TheVariants as late_call
use Rattle.xc_data.specs.declared.call.LateEnd.{LateEnd}
use Rattle.xc_data.specs.declared.entry.Cause.{Cause}
use Rattle.xc_data.specs.declared.entry.Entry.{Entry}
use Rattle.xc_data.specs.declared.entry.JobEnd.TheVariants as job_end
use Rattle.xc_data.specs.declared.entry.Outcome.TheVariants.{Committed, Aborted}
use Rattle.xc_data.specs.declared.entry.Turn.{Turn}
use Rattle.xc_data.specs.declared.entry.Turn.TheVariants as turn
use Rattle.xc_data.specs.Remaining.{objects_of}
use Rattle.xc_data.specs.declared.undo.Undo.{Undo}
use Rattle.xc_world.specs.Beside.{AreElsewhere}
use Rattle.xc_compensate.specs.Records.{IsTried, Records}
use Rattle.xc_deferred.specs.Does.{EndsAsPlain, EndsNext}
use Rattle.xc_deferred.specs.Queue.{Queue, next_thread}
use Rattle.xc_host.specs.Fronted.{before, fronted}
use Rattle.xc_host.specs.Kept.{with_kept}
use Rattle.xc_host.specs.Model.{HostModel}
use Rattle.xc_roomy.specs.Room.{Roomy}
use Rattle.xc_sentinel.specs.declared.sentinels.Sentinels.{Sentinels}
use Rattle.xc_sentinel.specs.Seating.{SetsSeat}
use Rattle.xc_model.specs.declared.phase.Phase.{Phase}
use Rattle.xc_model.specs.declared.phase.Phase.TheVariants as phase
use Rattle.xc_model.specs.declared.rules.Rules.{Rules}
use Rattle.xc_data.specs.Calls.{thread_in}
use Rattle.xc_model.specs.Live.{has_clients}
use Rattle.xc_model.specs.Setting.{Setting, setting}
use Rattle.xc_model.specs.Moment.{TxView, JobView, Doing, Idle, Active, Starved, Ended, Moment, late_left, queue_of, with_queue, with_job}
use Rattle.xc_model.specs.Moment.{unmarked}
use Rattle.xc_text.specs.declared.script.Script.{Script}
use Rattle.xc_model.specs.Rows.{IsTurn, TurnOf, ActiveTurn}
use Rattle.xc_model.specs.UndoingRows.{BackTurn, Compensates, EntersAborted}
use Rattle.xc_model.specs.CommittingRows.{EndsLate, EntersCommitted, LateTurn, NextLate}
use Rattle.xc_model.specs.IdleRows.{IdleTurn}
use Rattle.xc_model.specs.CommittingRows.{Starts}
use Rattle.xc_model.specs.Starts.{IsStart}
use Rattle.xc_model.specs.Rows.{StarvedTurn}
use Rattle.xc_model.specs.Entering.{behind_abort, behind_commit, entry_of, started_jobs}
use Rattle.xc_model.specs.Movers.{mover, with_tx}
use Rattle.xc_station.specs.declared.calls.Shared.{Shared}
use Rattle.xc_station.specs.declared.job.Job.{Job}
use Rattle.xc_station.specs.declared.job.Stage.{Stage}
use Rattle.xc_station.specs.declared.job.Stage.TheVariants as stage
use Rattle.xc_station.specs.Jobs.{doing_of, fed_doing, fed_turn, job_view, job_views}
use Rattle.xc_station.specs.Lent.{GivesTaken, Lent}
use Rattle.xc_station.specs.Moments.{IsRunningRow, marks_of, moved, told_by}
use Rattle.xc_station.specs.Stations.{moment}
use Rattle.xc_station.proofs.Lent.{kept_again, undone_kept}
use Rattle.xc_data.proofs.Laws.{get_map, length_set, map_set}
use Rattle.xc_station.proofs.Seated.{marks_unmarked}
use Rattle.xc_station.proofs.Stages.{IsThere, idle_stage, starved_stage, running_stage, committing_stage, committed_stage, undoing_stage, undone_stage}

-- ---- a row of what the job in this place does
pub row_turned : (s : Setting) (at : ℕ) (old new : Moment) (job : JobView) (d : Doing) (answer : Turn) → slice_get old.jobs at ≡ Some job → job.doing ≡ d
    → TurnOf (mover s at old job) d answer new → IsTurn s at old answer new
row_turned s at old new job d answer there does row =
    record { job = job; there = there; row = subst (λ e. TurnOf (mover s at old job) e answer new) (sym does) row }

-- and of its active transaction's phase
pub phase_turned : (s : Setting) (at : ℕ) (old new : Moment) (job : JobView) (tx : TxView) (p : Phase) (answer : Turn) → slice_get old.jobs at ≡ Some job
    → job.doing ≡ Active tx → tx.phase ≡ p → ActiveTurn (mover s at old job) tx p answer new → IsTurn s at old answer new
phase_turned s at old new job tx p answer there does in' row =
    row_turned s at old new job (Active tx) answer there does (subst (λ q. ActiveTurn (mover s at old job) tx q answer new) (sym in') row)

-- a late call that starts no job ends as one at the host
ended_late : (s : Setting) (at : ℕ) (old : Moment) (job : JobView) (tx : TxView) (call : LateCall) (new : Moment) → thread_in call ≡ None
    → EndsLate (mover s at old job) tx call new → NextLate (mover s at old job) tx call new
ended_late s at old job tx (late_call.Thread block) new starts row = cc starts
ended_late s at old job tx _ new starts row = row

-- a call that starts a job of a block is this one
starts_block : (call : LateCall) (block : List ℕ) → thread_in call ≡ Some block → call ≡ late_call.Thread block
starts_block (late_call.Thread block') block starts = let same : block' ≡ block = cc starts in ap late_call.Thread same
starts_block _ block starts = cc starts

-- ---- at the moments of a station
module _ {H : Type 0} (model : HostModel H) (shared : Shared H) (journal : List Entry) (jobs : List Job) (at : ℕ) (was : Job) where
  -- a moment with another job, where the host, the words and the sentinels may have changed
  pub moment_set : (shared' : Shared H) (journal' : List Entry) (job : Job)
      → moment model shared' journal' (slice_set jobs at job)
      ≡ record (moment model shared' journal' jobs) { jobs = slice_set (job_views jobs) at (job_view job) }
  moment_set shared' journal' job = ap (λ js. record (moment model shared' journal' jobs) { jobs = js }) (map_set job_view jobs at job)

  seen_there : (s : Stage) → IsThere jobs at s was → slice_get (job_views jobs) at ≡ Some (job_view was)
  seen_there s is = get_map job_view jobs at was is.there

  -- an idle job's
  pub idle_turned : (s : Setting) (sentinels' : Sentinels) (journal' : List Entry) (job : Job) (answer : Turn) → IsThere jobs at stage.Idle was
      → journal' ≡ journal
      → IdleTurn (mover s at (moment model shared journal jobs) (job_view was)) answer
      (record (with_job (moment model shared journal jobs) at (job_view job)) { marks = marks_of sentinels'.seats })
      → IsTurn s at (moment model shared journal jobs) answer (moment model (record shared { sentinels = sentinels' }) journal' (slice_set jobs at job))
  idle_turned s sentinels' journal' job answer is same row =
      let old = moment model shared journal jobs in
      let shared' = record shared { sentinels = sentinels' } in
      let new : record (with_job old at (job_view job)) { marks = marks_of sentinels'.seats } ≡ moment model shared' journal' (slice_set jobs at job) =
      sym (moment_set shared' journal job)
      ∙ ap (λ j. moment model shared' j (slice_set jobs at job)) (sym same) in
      subst (λ n. IsTurn s at old answer n) new
      (row_turned s at old (record (with_job old at (job_view job)) { marks = marks_of sentinels'.seats }) (job_view was) Idle answer
      (seen_there stage.Idle is) (idle_stage (doing_of was) is.stage) row)

  -- a starved job's row, of a script or of clients
  fed_row : (s : Setting) (new : Moment) (clients : Bool) → has_clients s.script ≡ clients
      → new ≡ with_job (moment model shared journal jobs) at (record (job_view was) { doing = fed_doing clients })
      → StarvedTurn (mover s at (moment model shared journal jobs) (job_view was)) (fed_turn clients) new
  fed_row s new true asks behind = (asks, behind)
  fed_row s new false asks behind = (asks, behind)

  -- and its turn
  pub starved_turned : (s : Setting) (job : Job) (answer : Turn) → IsThere jobs at stage.Starved was
      → (job_view job ≡ record (job_view was) { doing = fed_doing (has_clients s.script) }) × (answer ≡ fed_turn (has_clients s.script))
      → IsTurn s at (moment model shared journal jobs) answer (moment model shared journal (slice_set jobs at job))
  starved_turned s job answer is ends =
      let old = moment model shared journal jobs in
      let new = moment model shared journal (slice_set jobs at job) in
      let row : StarvedTurn (mover s at old (job_view was)) (fed_turn (has_clients s.script)) new =
      fed_row s new (has_clients s.script) refl (moment_set shared journal job ∙ ap (with_job old at) ends.0) in
      row_turned s at old new (job_view was) Starved answer (seen_there stage.Starved is) (starved_stage (doing_of was) is.stage)
      (subst (λ a. StarvedTurn (mover s at old (job_view was)) a new) (sym ends.1) row)

  -- a running job's
  pub running_turned : (s : Setting) (shared' : Shared H) (job : Job) (answer : Turn) → IsThere jobs at stage.Running was
      → shared'.started ≡ shared.started
      → IsRunningRow (mover s at (moment model shared journal jobs) (job_view was))
      (moved model shared' (job_view job) (moment model shared journal jobs) at) answer
      shared'.sentinels
      → IsTurn s at (moment model shared journal jobs) answer (moment model shared' journal (slice_set jobs at job))
  running_turned s shared' job answer is started row =
      let old = moment model shared journal jobs in
      let new : moved model shared' (job_view job) old at ≡ moment model shared' journal (slice_set jobs at job) =
      ap (λ blocks. record (moved model shared' (job_view job) old at) { started = blocks }) (sym (ap (λ (r : Roomy (List ℕ)). r.items) started))
      ∙ sym (moment_set shared' journal job) in
      let mine = running_stage (doing_of was) is.stage in
      let one : mine.tx ≡ row.tx = (let a = mine.doing in let b = row.doing in cc (a, b)) in
      subst (λ n. IsTurn s at old answer n) new
      (phase_turned s at old (moved model shared' (job_view job) old at) (job_view was) row.tx phase.Running answer (seen_there stage.Running is) row.doing
      (ap (λ (t : TxView). t.phase) (sym one) ∙ mine.phase) row.row)

  -- a committing job's, where a late call has no end: it starts no job
  pub committing_turned : (s : Setting) (shared' : Shared H) (job : Job) → (IsTrue s.tells → IsTrue model.tells) → IsThere jobs at stage.Committing was
      → ((tx : TxView) → (job_view was).doing ≡ Active tx → next_thread (late_left tx) ≡ None)
      → ((tx : TxView) (call : LateCall) (calls : List LateCall) → (job_view was).doing ≡ Active tx → late_left tx ≡ call ∷ calls
      → (queue : Queue) × (job_view job ≡ with_tx (job_view was) was.place (with_queue tx queue))
      × EndsNext (fronted model) call (record { host = before shared.host shared.buffers.kept; late = queue_of tx })
      (record { host = before shared'.host shared.buffers.kept; late = queue }))
      → (shared'.words ≡ shared.words) × (shared'.sentinels ≡ shared.sentinels) × (shared'.buffers ≡ shared.buffers) × (shared'.started ≡ shared.started)
      → IsTurn s at (moment model shared journal jobs) turn.Went (moment model shared' journal (slice_set jobs at job))
  committing_turned s shared' job telling is none gives same =
      let old = moment model shared journal jobs in
      let new = moment model shared' journal (slice_set jobs at job) in
      let mine = committing_stage (doing_of was) is.stage in
      let gave = gives mine.tx mine.next mine.later mine.doing mine.left in
      let ends = gave.2 in
      let job' : job_view job ≡ with_tx (job_view was) was.place (record mine.tx { ends = mine.tx.ends ++ ends.end ∷ [] }) =
      gave.1 ∙ ap (λ (queue : Queue). with_tx (job_view was) was.place (with_queue mine.tx queue)) ends.noted in
      let row : EndsLate (mover s at old (job_view was)) mine.tx mine.next new = record {
        end = ends.end;
        behind = moment_set shared' journal job
            ∙ (λ i. record (moment model shared' journal jobs) {
              words = same.0 i;
              kept = (same.2 i).kept;
              jobs = slice_set (job_views jobs) at (job' i);
              marks = marks_of ((same.1 i).seats);
              started = (same.3 i).items;
            });
        uses = (ends.uses.made, ends.uses.named, ends.uses.used.called);
        cause = ends.cause;
        does = λ tells.
            subst (λ (lent : Lent). EndsAsPlain (told_by model shared) (with_kept (model.contents shared'.host) lent.kept) mine.next ends.end) (sym same.2)
            (ends.does (telling tells));
      } in
      phase_turned s at old new (job_view was) mine.tx phase.Committing turn.Went (seen_there stage.Committing is) mine.doing mine.phase
      (subst (λ left. LateTurn (mover s at old (job_view was)) mine.tx left new) (sym mine.left)
      (ended_late s at old (job_view was) mine.tx mine.next new (sym (ap next_thread mine.left) ∙ none mine.tx mine.doing) row))

  -- a committing job's, where each has one: what it started is live after it
  pub committed_turned : (s : Setting) (shared' : Shared H) (journal' : List Entry) (entry : Entry) (job : Job) (more : List Job) (number : ℕ)
      → IsThere jobs at stage.Committed was
      → ((tx : TxView) (at : ℕ) → (job_view was).doing ≡ Active tx → number ≡ at + 1
      → (job_view job ≡ behind_commit (job_view was) tx) × (entry ≡ entry_of tx at (Committed tx.ends)))
      → ((tx : TxView) → (job_view was).doing ≡ Active tx → SetsSeat shared.sentinels.seats shared'.sentinels.seats tx.number None)
      → number ≡ at + 1 → (shared'.host ≡ shared.host) × (shared'.words ≡ shared.words) × (shared'.started ≡ shared.started)
      → shared'.buffers.kept ≡ shared.buffers.kept → journal' ≡ journal ++ entry ∷ []
      → ((tx : TxView) → (job_view was).doing ≡ Active tx → job_views more ≡ started_jobs s.script (job_view was) tx)
      → length jobs + length more ≤ 1000
      → IsTurn s at (moment model shared journal jobs) turn.Went (moment model shared' journal' (slice_set jobs at job ++ more))
  committed_turned s shared' journal' entry job more number is gives gone counts same kept entered starts few =
      let old = moment model shared journal jobs in
      let new = moment model shared' journal' (slice_set jobs at job ++ more) in
      let mine = committed_stage (doing_of was) is.stage in
      let gave = gives mine.tx at mine.doing counts in
      let marks' : marks_of shared'.sentinels.seats ≡ unmarked (marks_of shared.sentinels.seats) mine.tx.number =
      marks_unmarked shared.sentinels.seats shared'.sentinels.seats mine.tx.number None (gone mine.tx mine.doing) refl in
      let live : job_views (slice_set jobs at job ++ more)
      ≡ slice_set (job_views jobs) at (behind_commit (job_view was) mine.tx) ++ started_jobs s.script (job_view was) mine.tx =
      map-append job_view (slice_set jobs at job) more
      ∙ (λ i. (map_set job_view jobs at job ∙ ap (slice_set (job_views jobs) at) gave.0) i ++ starts mine.tx mine.doing i) in
      let row : EntersCommitted (mover s at old (job_view was)) mine.tx new = (
        λ i. record {
          words = same.1 i;
          contents = with_kept (model.contents (same.0 i)) (kept i);
          faults = model.fault_count (same.0 i);
          calls = model.calls (same.0 i);
          kept = kept i;
          journal = (entered ∙ ap (λ e. journal ++ e ∷ []) gave.1) i;
          jobs = live i;
          started = (same.2 i).items;
          marks = marks' i;
        },
        (let a = length-map (slice_set jobs at job ++ more) job_view in let b = length_set jobs at job in
            let c = length-append (slice_set jobs at job) more in omega (arith, a, b, c, few)),
      ) in
      phase_turned s at old new (job_view was) mine.tx phase.Committing turn.Went (seen_there stage.Committed is) mine.doing mine.phase
      (subst (λ left. LateTurn (mover s at old (job_view was)) mine.tx left new) (sym mine.left) row)

  -- a committing job's, whose next late call starts a job
  pub starting_turned : (s : Setting) (shared' : Shared H) (job : Job) (block : List ℕ) (end : LateEnd) → IsThere jobs at stage.Committing was
      → ((tx : TxView) → (job_view was).doing ≡ Active tx → next_thread (late_left tx) ≡ Some block)
      → ((tx : TxView) → (job_view was).doing ≡ Active tx
      → job_view job ≡ with_tx (job_view was) was.place (record tx { ends = tx.ends ++ end ∷ [] }))
      → IsStart s.script shared.started.items block end shared'.started.items
      → shared' ≡ record shared { started = shared'.started }
      → IsTurn s at (moment model shared journal jobs) turn.Went (moment model shared' journal (slice_set jobs at job))
  starting_turned s shared' job block end is thread gives starts same =
      let old = moment model shared journal jobs in
      let new = moment model shared' journal (slice_set jobs at job) in
      let mine = committing_stage (doing_of was) is.stage in
      let first : mine.next ≡ late_call.Thread block = starts_block mine.next block (sym (ap next_thread mine.left) ∙ thread mine.tx mine.doing) in
      let row : Starts (mover s at old (job_view was)) mine.tx block new = record {
        end = end;
        behind = moment_set shared' journal job
            ∙ (λ i. record (moment model (same i) journal jobs) {
              jobs = slice_set (job_views jobs) at (gives mine.tx mine.doing i);
              started = shared'.started.items;
            });
        starts = starts;
      } in
      phase_turned s at old new (job_view was) mine.tx phase.Committing turn.Went (seen_there stage.Committing is) mine.doing mine.phase
      (subst (λ left. LateTurn (mover s at old (job_view was)) mine.tx left new) (sym (mine.left ∙ ap (λ c. c ∷ mine.later) first)) row)

  -- an undoing job's, where a record has no end
  pub undoing_turned : (script : Script) (rules : Rules) (shared' : Shared H) (job : Job) (is : IsThere jobs at stage.Undoing was)
      → ((tx : TxView) → (job_view was).doing ≡ Active tx → (undo : Records) × (job_view job ≡ with_tx (job_view was) was.place (record tx { undo = undo }))
      × IsTried model rules.undo_tries (record { host = shared.host; undo = tx.undo }) (record { host = shared'.host; undo = undo }))
      → ((older : List Undo) (u : Undo) → (undoing_stage (doing_of was) is.stage).tx.undo.pending ≡ older ++ u ∷ [] → IsTrue model.tells
      → AreElsewhere (objects_of u) shared.buffers.kept)
      → (shared'.words ≡ shared.words) × (shared'.sentinels ≡ shared.sentinels) × (shared'.buffers ≡ shared.buffers) × (shared'.started ≡ shared.started)
      → IsTurn (setting script rules model.tells) at (moment model shared journal jobs) turn.Went (moment model shared' journal (slice_set jobs at job))
  undoing_turned script rules shared' job is gives away same =
      let s = setting script rules model.tells in
      let old = moment model shared journal jobs in
      let new = moment model shared' journal (slice_set jobs at job) in
      let back = undoing_stage (doing_of was) is.stage in
      let gave = gives back.tx back.doing in
      let tried = gave.2 in
      let row : Compensates (mover s at old (job_view was)) back.tx new = record {
        older = tried.older;
        tried = tried.tried;
        end = tried.end;
        newest = tried.was;
        legal = tried.legal;
        faults = tried.faults;
        uses = (tried.uses.made, tried.uses.named, tried.uses.used.called);
        effect = λ tells.
            (λ i. with_kept (tried.effect tells i) ((same.2 i).kept))
            ∙ undone_kept (model.contents shared.host) shared.buffers.kept tried.tried tried.end (away tried.older tried.tried tried.was tells);
        behind = moment_set shared' journal job
            ∙ (λ i. record (moment model shared' journal jobs) {
              words = same.0 i;
              kept = (same.2 i).kept;
              started = (same.3 i).items;
              jobs = slice_set (job_views jobs) at ((gave.1 ∙ ap (λ undo. with_tx (job_view was) was.place (record back.tx { undo = undo })) tried.stack) i);
              marks = marks_of ((same.1 i).seats);
            });
      } in
      phase_turned s at old new (job_view was) back.tx (phase.Undoing back.cause) turn.Went (seen_there stage.Undoing is) back.doing back.phase
      (subst (λ pending. BackTurn (mover s at old (job_view was)) back.tx back.cause pending new) (sym back.pending) row)

  -- an undoing job's, where each has one: what it took is given back
  pub undone_turned : (s : Setting) (shared' : Shared H) (journal' : List Entry) (entry : Entry) (job : Job) (number : ℕ) → IsThere jobs at stage.Undone was
      → ((tx : TxView) (c : Cause) (at : ℕ) → (job_view was).doing ≡ Active tx → tx.phase ≡ phase.Undoing c → number ≡ at + 1
      → (job_view job ≡ behind_abort (job_view was) tx c) × (entry ≡ entry_of tx at (Aborted (record { cause = c; records = tx.undo.ended }))))
      → ((tx : TxView) → (job_view was).doing ≡ Active tx → SetsSeat shared.sentinels.seats shared'.sentinels.seats tx.number None)
      → number ≡ at + 1 → (shared'.host ≡ shared.host) × (shared'.words ≡ shared.words) × (shared'.started ≡ shared.started)
      → GivesTaken shared.buffers shared'.buffers (job_view was)
      → journal' ≡ journal ++ entry ∷ []
      → IsTurn s at (moment model shared journal jobs) turn.Went (moment model shared' journal' (slice_set jobs at job))
  undone_turned s shared' journal' entry job number is gives gone counts same given entered =
      let old = moment model shared journal jobs in
      let new = moment model shared' journal' (slice_set jobs at job) in
      let back = undone_stage (doing_of was) is.stage in
      let gave = gives back.tx back.cause at back.doing back.phase counts in
      let marks' : marks_of shared'.sentinels.seats ≡ unmarked (marks_of shared.sentinels.seats) back.tx.number =
      marks_unmarked shared.sentinels.seats shared'.sentinels.seats back.tx.number None (gone back.tx back.doing) refl in
      let row : EntersAborted (mover s at old (job_view was)) back.tx back.cause new = record {
        behind = moment_set shared' journal' job
            ∙ (λ i. record {
              words = same.1 i;
              contents = told_by model shared';
              faults = model.fault_count (same.0 i);
              calls = model.calls (same.0 i);
              kept = shared'.buffers.kept;
              journal = (entered ∙ ap (λ e. journal ++ e ∷ []) gave.1) i;
              jobs = slice_set (job_views jobs) at (gave.0 i);
              started = (same.2 i).items;
              marks = marks' i;
            });
        kept = record { given = λ w. given.given w back.tx back.doing; among = λ item there. given.among item back.tx back.doing there };
        returned = λ tells. ap (λ h. with_kept (model.contents h) shared'.buffers.kept) same.0
            ∙ kept_again (model.contents shared.host) shared.buffers.kept shared'.buffers.kept back.tx.taken (λ w. given.given w back.tx back.doing);
      } in
      phase_turned s at old new (job_view was) back.tx (phase.Undoing back.cause) turn.Went (seen_there stage.Undone is) back.doing back.phase
      (subst (λ pending. BackTurn (mover s at old (job_view was)) back.tx back.cause pending new) (sym back.pending) row)
