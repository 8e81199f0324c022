-- The entry of a transaction that ends is true after a true journal, and what the journal leads to with it.
use Rattle.std.proofs.Common.{◌≡◌, ℕ, ◌+◌, ◌-◌, ◌<◌, ◌≤◌, Bool, true, false, IsTrue, List, [], ◌++◌, length, map, ap, sym, ◌∙◌, subst}
use Rattle.std.proofs.Common.{arith}
use Rattle.std.specs.Prelude.{slice_get, slice_set, take, if◌then◌else◌}
use Rattle.std.specs.declared.option.Option.TheVariants.{Some}
use Rattle.xc_data.specs.declared.call.LateCall.{LateCall}
use Rattle.xc_data.specs.declared.claim.Claim.{Claim}
use Rattle.xc_data.specs.declared.entry.Cause.{Cause}
use Rattle.xc_data.specs.declared.entry.Cause.TheVariants as cause
use Rattle.xc_data.specs.declared.entry.Outcome.{Outcome}
use Rattle.xc_data.specs.declared.entry.Outcome.TheVariants.{Committed, Aborted}
use Rattle.xc_data.specs.declared.undo.Undo.{Undo}
use Rattle.xc_text.specs.declared.script.Script.{Script}
use Rattle.xc_script.specs.declared.ask.Ask.{Ask}
use Rattle.xc_script.specs.Asking.{asks}
use Rattle.xc_script.specs.Position.{Position, walk_of}
use Rattle.xc_script.specs.Blocks.{BlockWalk, kept_calls}
use Rattle.xc_world.specs.Ends.{AreLegal, Ending}
use Rattle.xc_world.specs.Run.{BodyResult, late_asked_of, lates, lates_fit}
use Rattle.xc_model.specs.declared.phase.Phase.{Phase}
use Rattle.xc_model.specs.declared.phase.Phase.TheVariants.{Committing, Undoing}
use Rattle.xc_model.specs.Live.{IsScripted}
use Rattle.xc_model.specs.Setting.{Setting}
use Rattle.xc_model.specs.WordCalls.{AreWordReplies}
use Rattle.xc_model.specs.Progress.{Following, Progress, after_entry, after_following, following_abort, following_of}
use Rattle.xc_model.specs.Progress.{committed_job, started_following, untried}
use Rattle.xc_model.specs.Recorded.{HasRecords, IsStuckIn, all_records, no_records, saved_records}
use Rattle.xc_model.specs.EntryEnds.{AreRecords, HasAbortCause, IsHeldAt, IsReport, is_tried_again}
use Rattle.xc_model.specs.Joint.{IsPlayed, IsTrueEntry}
use Rattle.xc_model.specs.Moment.{TxView, late_left}
use Rattle.xc_model.specs.LateCalls.{started_late}
use Rattle.xc_data.specs.Calls.{thread_asked, thread_in}
use Rattle.xc_model.specs.Entering.{entry_of}
use Rattle.xc_model.specs.Stories.{HasRecordsIn, IsCommitting, IsInPhase, IsUndoing, IsUnderway}
use Rattle.xc_model.specs.Played.{HoldsFor, IsPlayedSoFar, RecordsFor, ran_behind}
use Rattle.xc_model.specs.Started.{HasStartEnds}
use Rattle.xc_model.specs.Starts.{AreStarts}
use Rattle.xc_model.proofs.Laws.{started_same}
use Rattle.xc_turns.proofs.LateCounts.{late_as_many, left_none, take_all}

-- ---- the entry of the job in one place
-- the number after a place leads back to it
pub place_of_number : (at : ℕ) → at + 1 - 1 ≡ at
place_of_number at = omega arith

-- its job is the one in that place
pub entry_following : (p : Progress) (at : ℕ) (tx : TxView) (outcome : Outcome) (f : Following) → slice_get p.jobs at ≡ Some f
    → following_of p (entry_of tx at outcome) ≡ Some f
entry_following p at tx outcome f got = ap (slice_get p.jobs) (place_of_number at) ∙ got

-- ---- a commit
commit_played : (next : Ask) (words : ℕ) (p : Progress) (at : ℕ) (tx : TxView) → tx.phase ≡ Committing → length tx.ends ≡ length tx.late
    → IsPlayedSoFar next words p at tx → IsPlayed p next (entry_of tx at (Committed tx.ends))
commit_played next words p at tx commits all so =
    let ran = ran_behind p at tx in
    let whole : take (length tx.ends) ran.late ≡ ran.late = take_all ran.late (length tx.ends) (all ∙ ap length (sym so.late)) in
    record {
      fits = so.fits;
      replies = so.replies;
      held = subst (λ (f : Phase). HoldsFor ran next f tx.held) commits so.holds;
      outcome = record {
        ends = ap (λ (calls : List LateCall). (lates ran.world (late_asked_of calls tx.ends)).ends) (sym whole) ∙ so.ends;
        late_fits = subst (λ (calls : List LateCall). IsTrue (lates_fit ran.world (late_asked_of calls tx.ends))) whole so.late_fits;
      };
    }

-- the entry of a commit is true after a true journal
pub commit_true : (s : Setting) (words : ℕ) (p : Progress) (f : Following) (at : ℕ) (place : Position) (last : Ask) (tx : TxView)
    → (IsScripted s.script → last ≡ asks (walk_of s.script place)) → slice_get p.jobs at ≡ Some f
    → tx.phase ≡ Committing → late_left tx ≡ [] → IsUnderway s f place last tx → tx.began ≤ p.entered → AreWordReplies p.words tx.calls tx.replies
    → HasStartEnds s.script (map (λ (g : Following). g.block) p.jobs) tx → (IsTrue s.tells → IsPlayedSoFar last words p at tx)
    → IsTrueEntry s p last (entry_of tx at (Committed tx.ends))
commit_true s words p f at place last tx own_ask got commits none under began said starts played =
    let committing : IsCommitting s place last tx = subst (IsInPhase s place last tx) commits under.phase in
    let all : length tx.ends ≡ length tx.late = left_none tx.late tx.ends committing.few_ends none in
    record {
      following = f;
      numbered = omega arith;
      started = entry_following p at tx (Committed tx.ends) f got;
      entry = record {
        story = record {
          goes_on = under.goes_on;
          left = under.left;
          since = under.since;
          began = began;
          rank = under.rank;
          failures = let lt = under.attempts in omega arith;
          scripted = λ own. record {
            calls = under.asked own;
            after = own_ask own ∙ ap (λ (b : BlockWalk). asks b.walk) (under.ahead own);
          };
          asked = (committing.asked, all ∙ late_as_many tx.late (kept_calls tx.calls tx.replies) under.kept.0);
          faults = under.faults;
        };
        words = said;
        in_time = under.in_time;
        starts = subst (λ calls. AreStarts s.script (map (λ (g : Following). g.block) p.jobs) calls tx.ends) under.kept.0 starts;
        played = λ t. commit_played last words p at tx commits all (played t);
      };
    }

-- the job after its commit
abbrev pub gone_on : Script → ℕ → Following → TxView → Following
gone_on script entered f tx = untried f.block (committed_job script f.job tx.calls tx.replies tx.ends) (entered + 1)

-- the jobs that it started
abbrev pub started_on : Script → ℕ → Following → TxView → List Following
started_on script entered f tx =
    map (started_following script (committed_job script f.job tx.calls tx.replies tx.ends) (entered + 1)) (started_late tx.late tx.ends)

-- it goes on in its place after a commit, and those that it started stand after
pub commit_leads : (script : Script) (p : Progress) (f : Following) (at : ℕ) (tx : TxView) → slice_get p.jobs at ≡ Some f
    → map thread_in tx.late ≡ map thread_asked (kept_calls tx.calls tx.replies)
    → (after_entry script p (entry_of tx at (Committed tx.ends))).jobs
    ≡ slice_set p.jobs at (gone_on script p.entered f tx) ++ started_on script p.entered f tx
commit_leads script p f at tx got kept =
    let e = entry_of tx at (Committed tx.ends) in
    let g = gone_on script p.entered f tx in
    let more = started_following script (committed_job script f.job tx.calls tx.replies tx.ends) (p.entered + 1) in
    ap (λ o. (after_following script p e o).jobs) (entry_following p at tx (Committed tx.ends) f got)
    ∙ ap (λ bs. slice_set p.jobs (at + 1 - 1) g ++ map more bs) (sym (started_same tx.late (kept_calls tx.calls tx.replies) tx.ends kept))
    ∙ ap (λ i. slice_set p.jobs i g ++ started_on script p.entered f tx) (place_of_number at)

-- ---- an abort
-- its outcome
abbrev pub aborted_by : Cause → TxView → Outcome
aborted_by c tx = Aborted (record { cause = c; records = tx.undo.ended })

held_back : (ran : BodyResult) (next : Ask) (c : Cause) (held : List Claim) → HoldsFor ran next (Undoing c) held → IsHeldAt ran next c held
held_back ran next (cause.Stuck failed) held h = h
held_back ran next cause.Asked held h = h
held_back ran next (cause.Conflict object holder at) held h = h
held_back ran next (cause.Revoked object by at) held h = h
held_back ran next cause.NoMemory held h = h

records_back : (ran : BodyResult) (tx : ℕ) (next : Ask) (c : Cause) (records : List Undo) → RecordsFor ran tx next (Undoing c) records
    → AreRecords ran tx next c records
records_back ran tx next (cause.Stuck failed) records h = h
records_back ran tx next cause.Asked records h = h
records_back ran tx next (cause.Conflict object holder at) records h = h
records_back ran tx next (cause.Revoked object by at) records h = h
records_back ran tx next cause.NoMemory records h = h

abort_played : (next : Ask) (words : ℕ) (p : Progress) (at : ℕ) (tx : TxView) (c : Cause) → tx.phase ≡ Undoing c → tx.undo.pending ≡ []
    → IsPlayedSoFar next words p at tx → IsPlayed p next (entry_of tx at (aborted_by c tx))
abort_played next words p at tx c undoes none so =
    let ran = ran_behind p at tx in
    let ended : List Undo = map (λ (r : Ending). r.0) tx.undo.ended in
    let holds = subst (λ (h : Phase). HoldsFor ran next h tx.held) undoes so.holds in
    let told = subst (λ (h : Phase). RecordsFor ran tx.number next h (tx.undo.pending ++ ended)) undoes so.records in
    let all = subst (λ (us : List Undo). RecordsFor ran tx.number next (Undoing c) (us ++ ended)) none told in
    record {
      fits = so.fits;
      replies = so.replies;
      held = held_back ran next c tx.held holds;
      outcome = records_back ran tx.number next c ended all;
    }

few_tried : (b : Bool) (n m : ℕ) → n < m → (if b then n + 1 else n) ≤ m
few_tried true n m lt = omega arith
few_tried false n m lt = omega arith

-- its report has the records of its calls, with their ends
report_so : (s : Setting) (f : Following) (place : Position) (last : Ask) (tx : TxView) (c : Cause) → tx.phase ≡ Undoing c → tx.undo.pending ≡ []
    → IsUnderway s f place last tx → IsUndoing s last tx c
    → IsReport s.rules.undo_tries (all_records no_records tx.calls tx.replies) (record { cause = c; records = tx.undo.ended })
report_so s f place last tx c undoes none under undoing =
    let k = all_records no_records tx.calls tx.replies in
    let ended : List Undo = map (λ (r : Ending). r.0) tx.undo.ended in
    let count = subst (λ (ph : Phase). HasRecordsIn k ph (tx.undo.pending ++ ended)) undoes under.counted.now in
    record {
      count = subst (λ (us : List Undo). HasRecords k c (us ++ ended)) none count;
      legal = subst (λ (us : List Undo). AreLegal s.rules.undo_tries (length us + 1) tx.undo.ended) none undoing.legal;
    }

-- and its cause is what it was asked, or a way back that got stuck
caused_so : (s : Setting) (f : Following) (place : Position) (last : Ask) (tx : TxView) (c : Cause) → tx.undo.pending ≡ [] → IsUndoing s last tx c
    → HasAbortCause (all_records no_records tx.calls tx.replies) last (record { cause = c; records = tx.undo.ended })
caused_so s f place last tx c none undoing =
    let k = all_records no_records tx.calls tx.replies in
    record {
      asked = undoing.caused;
      stuck = subst (λ (us : List Undo). IsStuckIn (saved_records k) (length us + 1) tx.undo.ended c) none undoing.stuck;
    }

-- the entry of an abort is true after a true journal
pub abort_true : (s : Setting) (words : ℕ) (p : Progress) (f : Following) (at : ℕ) (place : Position) (last : Ask) (tx : TxView) (c : Cause)
    → (IsScripted s.script → last ≡ asks (walk_of s.script place)) → slice_get p.jobs at ≡ Some f
    → tx.phase ≡ Undoing c → tx.undo.pending ≡ [] → IsUnderway s f place last tx → tx.began ≤ p.entered → AreWordReplies p.words tx.calls tx.replies
    → (IsTrue s.tells → IsPlayedSoFar last words p at tx) → IsTrueEntry s p last (entry_of tx at (aborted_by c tx))
abort_true s words p f at place last tx c own_ask got undoes none under began said played =
    let undoing : IsUndoing s last tx c = subst (IsInPhase s place last tx) undoes under.phase in
    record {
      following = f;
      numbered = omega arith;
      started = entry_following p at tx (aborted_by c tx) f got;
      entry = record {
        story = record {
          goes_on = under.goes_on;
          left = under.left;
          since = under.since;
          began = began;
          rank = under.rank;
          failures = few_tried (is_tried_again c) (length f.failed) s.rules.attempts under.attempts;
          scripted = λ own. record {
            calls = under.asked own;
            after = own_ask own ∙ ap (λ (b : BlockWalk). asks b.walk) (under.ahead own);
          };
          asked = (caused_so s f place last tx c none undoing, report_so s f place last tx c undoes none under undoing);
          faults = under.faults;
        };
        words = said;
        in_time = under.in_time;
        starts = tt;
        played = λ t. abort_played last words p at tx c undoes none (played t);
      };
    }

-- its job goes on in its place after an abort
pub abort_leads : (script : Script) (p : Progress) (f : Following) (at : ℕ) (tx : TxView) (c : Cause) → slice_get p.jobs at ≡ Some f
    → (after_entry script p (entry_of tx at (aborted_by c tx))).jobs
    ≡ slice_set p.jobs at (following_abort p.entered f (entry_of tx at (aborted_by c tx)) c)
abort_leads script p f at tx c got =
    let e = entry_of tx at (aborted_by c tx) in
    ap (λ o. (after_following script p e o).jobs) (entry_following p at tx (aborted_by c tx) f got)
    ∙ ap (λ i. slice_set p.jobs i (following_abort p.entered f e c)) (place_of_number at)
