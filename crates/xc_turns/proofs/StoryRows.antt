-- Each row of the table that enters nothing goes on with its job's story.
use Rattle.std.proofs.Common.{◌≡◌, ℕ, ◌+◌, ◌<◌, ◌≤◌, false, List, [], ◌∷◌, ◌++◌, length, refl, ap, sym, ◌∙◌, subst, arith}
use Rattle.std.proofs.Common.{append-nil, append_assoc, map, length-append}
use Rattle.std.proofs.lemmas.List.{length-map}
use Rattle.std.specs.Prelude.{All, IsSome, Option, is_some, unwrap_or}
use Rattle.std.specs.declared.option.Option.TheVariants.{None, Some}
use Rattle.xc_data.specs.declared.call.Call.{Call}
use Rattle.xc_data.specs.declared.call.LateEnd.{LateEnd}
use Rattle.xc_data.specs.declared.call.Reply.{Reply}
use Rattle.xc_data.specs.declared.claim.Claim.{Claim}
use Rattle.xc_data.specs.declared.entry.Cause.{Cause}
use Rattle.xc_data.specs.declared.entry.Cause.TheVariants as cause
use Rattle.xc_data.specs.declared.entry.JobEnd.{JobEnd}
use Rattle.xc_data.specs.declared.entry.JobEnd.TheVariants as job_end
use Rattle.xc_data.specs.Private.{IsSided}
use Rattle.xc_data.specs.declared.private.Private.{Private}
use Rattle.xc_data.specs.declared.undo.Undo.{Undo}
use Rattle.xc_data.specs.declared.undo.UndoEnd.{UndoEnd}
use Rattle.xc_compensate.specs.Records.{Records, way_of}
use Rattle.xc_script.specs.declared.ask.Ask.{Ask}
use Rattle.xc_script.specs.declared.ask.Ask.TheVariants as ask
use Rattle.xc_script.specs.Answers.{answered}
use Rattle.xc_script.specs.Blocks.{BlockWalk, replied, all_replied, after_ask, block_after_call, block_from, none_kept, all_kept}
use Rattle.xc_script.specs.Asking.{asks}
use Rattle.xc_script.specs.Position.{Position, at_begin, walk_of, IsPastSilent}
use Rattle.xc_world.specs.World.{beginning}
use Rattle.xc_world.specs.Ends.{Ending, AreLegal, IsLegalEnd, is_undone}
use Rattle.xc_world.specs.Fits.{is_back}
use Rattle.xc_world.specs.RecordOf.{AreRecordsOf, left_by}
use Rattle.xc_data.specs.declared.call.Call.TheVariants as call
use Rattle.xc_data.specs.declared.call.Reply.TheVariants as reply
use Rattle.xc_data.specs.declared.undo.UndoEnd.TheVariants.{Undone, Failed, Blocked}
use Rattle.xc_data.specs.Faults.{undo_faults}
use Rattle.std.specs.Prelude.{sum_by, true}
use Rattle.std.proofs.lemmas.List.Elements.{All-nil, All-cons}
use Rattle.xc_model.specs.BackingRows.{phase_after, backed, EndsBack}
use Rattle.xc_model.specs.RunningRows.{Calls, values_at}
use Rattle.xc_model.specs.Recorded.{Recorded, no_records, all_records, records_with, HasRecords, IsStuckIn, block_records, saved_records}
use Rattle.xc_turns.proofs.BlockRecords.{records-more, faults-more, no_faults, records_now, records_saved, open_alike}
use Rattle.xc_turns.proofs.BlockRecords.{counted_block, of_block, few_in_block, none_blocks, IsInFront, save_in_front}
use Rattle.xc_world.proofs.Laws.{as_many, front_records, more_records}
use Rattle.xc_host.specs.Contents.{world_of}
use Rattle.xc_data.specs.declared.entry.Mark.{Mark}
use Rattle.xc_model.specs.declared.phase.Attempts.{Attempts}
use Rattle.xc_model.specs.declared.phase.Phase.{Phase}
use Rattle.xc_model.specs.declared.phase.Phase.TheVariants.{Running, Committing, Undoing, Backing}
use Rattle.xc_script.specs.Values.{Variables}
use Rattle.xc_script.specs.Walks.{Walk}
use Rattle.xc_model.specs.Live.{GoesOn, IsScripted, asked_by, has_clients}
use Rattle.xc_model.specs.Setting.{Setting}
use Rattle.xc_model.specs.Progress.{Following}
use Rattle.xc_model.specs.EntryEnds.{IsCauseOf}
use Rattle.xc_model.specs.Ending.{IsEnd}
use Rattle.xc_model.specs.Moment.{TxView, SavedView, JobView, Doing, Idle, Active, Starved, Ended, Moment, begun_count, failures, rank_of, revoked}
use Rattle.xc_model.specs.Moment.{asked_to_wait}
use Rattle.xc_model.specs.IdleRows.{IsEnding, IsOver, MayBegin, IsSpent, beginning_job}
use Rattle.xc_model.specs.Movers.{IsSameBegin, IsSamePosition, Mover, asked_at, body_at}
use Rattle.xc_model.specs.IdleRows.{new_tx}
use Rattle.xc_model.specs.PlainSteps.{claims_at, noting, noting_plain, copied, saved_by}
use Rattle.xc_model.specs.Stories.{AreKeptSo, HasRecordsIn, IsCounted, IsCountedSave, IsAboveSave, IsWithinSave, IsSidedSave, IsBacking, IsKeptSo, IsOfClient}
use Rattle.xc_model.specs.Stories.{FitsWhereItRuns}
use Rattle.xc_model.specs.Stories.{AreAttempts, IsDoing, IsInPhase, IsCommitting, StoryHolds, IsRunning, IsInNextTx, IsUndoing, IsUnderway}
use Rattle.xc_turns.proofs.LiveSteps.{answered_live, asks_scripted, back_live, begin_live, kept_live, live_none}
use Rattle.xc_turns.proofs.StoryAsks.{answered-more, asks-more, in_time-more}
use Rattle.xc_model.proofs.Laws.{in_time-count, not_clients, nothing_asked, unasked_fits}
use Rattle.xc_turns.proofs.LateCounts.{late-more, back-more}
use Rattle.xc_turns.proofs.Sided.{sided_after}

-- ---- an idle job
-- the attempts that the journal tells are as many as the job counts
pub attempts_count : (f : Following) (attempts : Option Attempts) → AreAttempts f attempts → length f.failed ≡ failures attempts
attempts_count f None are = ap length are.1
attempts_count f (Some a) are = are.1

-- and the first of them has the number that the job keeps
pub attempts_rank : (f : Following) (attempts : Option Attempts) (number : ℕ) → AreAttempts f attempts → rank_of attempts number ≡ unwrap_or f.first number
attempts_rank f None number are = ap (λ o. unwrap_or o number) (sym are.0)
attempts_rank f (Some a) number are = ap (λ o. unwrap_or o number) (sym are.0)

given_up : (s : Setting) (f : Following) (attempts : Option Attempts) (c : Cause) → IsSpent s attempts c → AreAttempts f attempts
    → (s.rules.attempts ≤ length f.failed) × (before : List Cause) × (f.failed ≡ before ++ c ∷ [])
given_up s f None c spent are = absurd spent
given_up s f (Some a) c spent are =
    let lt : s.rules.attempts ≤ length f.failed = let many = spent.0 in let same = are.1 in omega arith in
    (lt, are.3, are.4 ∙ ap (λ (x : Cause). are.3 ++ x ∷ []) spent.1)

-- it ends as its story does
end_told : (s : Setting) (now : Moment) (f : Following) (job : JobView) (end : JobEnd) → IsEnding s now job end → AreAttempts f job.attempts
    → GoesOn s.script f.starved → job.place ≡ at_begin f.job → IsEnd s (begun_count now) f end
end_told s now f job job_end.Done ending are goes place =
    (goes, λ own. ap (λ (p : Position). body_at s p) (sym place) ∙ subst (λ b. IsOver b s job) own ending)
end_told s now f job (job_end.GaveUp c) ending are goes place =
    (goes, subst (λ (p : Position). IsSome (body_at s p)) place ending.0, given_up s f job.attempts c ending.1 are)
end_told s now f job job_end.JournalFull ending are goes place =
    let few : length f.failed < s.rules.attempts = let lt = ending.1 in let same = attempts_count f job.attempts are in omega arith in
    (goes, subst (λ (p : Position). IsSome (body_at s p)) place ending.0, few, ending.3)
end_told s now f job job_end.NoMemory ending are goes place = (ending.0, subst (λ (p : Position). IsSome (body_at s p)) place ending.1)

-- an idle job that ends
pub ended_told : (s : Setting) (now : Moment) (entered : ℕ) (f : Following) (job : JobView) (end : JobEnd) → job.doing ≡ Idle → IsEnding s now job end
    → StoryHolds s (begun_count now) entered f job → StoryHolds s (begun_count now) entered f (record job { doing = Ended end })
ended_told s now entered f job end idle ending told =
    let (goes, place) = subst (IsDoing s (begun_count now) f job) idle told.doing in
    record {
      block = told.block;
      fresh = told.fresh;
      sided = told.sided;
      since = told.since;
      attempts = told.attempts;
      few = told.few;
      doing = end_told s now f job end ending told.attempts goes place;
    }

-- a job that is told to wait
pub waiting_told : (s : Setting) (begun entered : ℕ) (f : Following) (job : JobView) → StoryHolds s begun entered f job
    → StoryHolds s begun entered f (asked_to_wait job)
waiting_told s begun entered f job told =
    record {
      block = told.block;
      fresh = told.fresh;
      sided = told.sided;
      since = told.since;
      attempts = told.attempts;
      few = told.few;
      doing = waiting_doing job.doing told.doing;
    }
  where
    waiting_doing : (d : Doing) → IsDoing s begun f job d → IsDoing s begun f (asked_to_wait job) d
    waiting_doing Idle h = h
    waiting_doing (Active tx) h = h
    waiting_doing Starved h = h
    waiting_doing (Ended end) h = h

-- where a job stands on its way, and what its open block keeps
abbrev stands_at : Setting → Position → BlockWalk
stands_at s place = record { walk = walk_of s.script place; saved = place.saved }

-- which calls of a transaction left a record
abbrev left_records : TxView → Recorded
left_records tx = all_records no_records tx.calls tx.replies

-- the records that have an end
abbrev tried : List Ending → List Undo
tried ended = map (λ (r : Ending). r.0) ended

-- all records that it has
abbrev all_of : TxView → List Undo
all_of tx = tx.undo.pending ++ tried tx.undo.ended

-- where none has an end, these are those without
none_tried : (pending : List Undo) (ended : List Ending) → ended ≡ [] → pending ++ tried ended ≡ pending
none_tried pending ended none = ap (λ es. pending ++ tried es) none ∙ append-nil pending

-- one that was the newest without an end is the oldest with one
newest_tried : (older pending : List Undo) (u : Undo) (e : UndoEnd) (ended : List Ending) → pending ≡ older ++ u ∷ []
    → pending ++ tried ended ≡ older ++ tried ((u, e) ∷ ended)
newest_tried older pending u e ended newest = ap (λ us. us ++ tried ended) newest ∙ append_assoc older (u ∷ []) (tried ended)

-- a transaction that begins
begun_underway : (s : Setting) (now : Moment) (f : Following) (job : JobView) (last : Ask) → (has_clients s.script ≡ true → last ≡ ask.End)
    → MayBegin s now job → AreAttempts f job.attempts → GoesOn s.script f.starved → job.place ≡ at_begin f.job → f.since ≤ length now.journal
    → job.me ≡ beginning job.me.places → All IsSided job.me.places
    → IsUnderway s f (record job.place { begun = job.place.variables }) last
    (new_tx (begun_count now + 1) (rank_of job.attempts (begun_count now + 1)) (length now.journal) job.me)
begun_underway s now f job last unasked ready are goes place since fresh sided =
    let none : job.me.stored ≡ 0 = ap (λ (m : Private). m.stored) fresh in
    record {
      goes_on = goes;
      left = subst (λ (p : Position). IsSome (body_at s p)) place ready.left;
      attempts = let lt = ready.attempts in let same = attempts_count f job.attempts are in omega arith;
      rank = attempts_rank f job.attempts (begun_count now + 1) are;
      since = since;
      standing = record {
        block = ap (λ (p : Position). p.block) place;
        next = ap (λ (p : Position). p.next) place;
        begun = ap (λ (p : Position). p.variables) place;
      };
      asked = λ own. refl;
      ahead = λ own. ap (λ (p : Position). stands_at s (record p { begun = p.variables })) place;
      client = λ live. record {
        variables = ap (λ (p : Position). (walk_of s.script p).variables) place ∙ begin_live s.script f.job live;
        saved = subst (λ o. IsKeptSo o f.job.variables.values) (sym (ap (λ (p : Position). p.saved) place)) tt;
      };
      fits = λ live. unasked_fits Running None last (unasked live);
      kept = (refl, tt);
      in_time = refl;
      stored = omega arith;
      sided = sided;
      saved_sided = tt;
      together = ap (λ (p : Position). is_some p.saved) place;
      counted = record { now = refl; saved = tt };
      faults = tt;
      phase = record {
        none = refl;
        no_ends = refl;
        within = tt;
      };
    }

-- an idle job whose next transaction begins
pub begun_told : (s : Setting) (now : Moment) (f : Following) (job : JobView) → job.doing ≡ Idle → MayBegin s now job
    → StoryHolds s (begun_count now) (length now.journal) f job → StoryHolds s (begun_count now + 1) (length now.journal) f (beginning_job now job)
begun_told s now f job idle ready told =
    let (goes, place) = subst (IsDoing s (begun_count now) f job) idle told.doing in
    record {
      block = told.block;
      fresh = told.fresh;
      sided = told.sided;
      since = told.since;
      attempts = told.attempts;
      few = told.few;
      doing = begun_underway s now f job (asked_at s (beginning_job now job)) (λ live. nothing_asked s (beginning_job now job) live refl) ready
          told.attempts goes place told.since told.fresh told.sided;
    }

-- ---- a job with an active transaction that stays active
-- its story goes on where its transaction does
pub active_told : (s : Setting) (begun entered : ℕ) (f : Following) (job : JobView) (place : Position) (handed : Option Ask) (tx next : TxView)
    → job.doing ≡ Active tx
    → (IsUnderway s f job.place (asked_at s job) tx → IsUnderway s f place (asked_by (has_clients s.script) s.script handed place) next)
    → StoryHolds s begun entered f job → StoryHolds s begun entered f (record job { place = place; handed = handed; doing = Active next })
active_told s begun entered f job place handed tx next active moves told =
    record {
      block = told.block;
      fresh = told.fresh;
      sided = told.sided;
      since = told.since;
      attempts = told.attempts;
      few = told.few;
      doing = moves (subst (IsDoing s begun f job) active told.doing);
    }

-- the same begin stands in the same transaction
pub same_next_tx : (f : Following) (old new : Position) → IsSameBegin old new → IsInNextTx f old → IsInNextTx f new
same_next_tx f old new same stands =
    record { block = same.block ∙ stands.block; next = same.next ∙ stands.next; begun = same.begun ∙ stands.begun }

-- a running one's phase
pub running_phase : (s : Setting) (f : Following) (place : Position) (last : Ask) (tx : TxView) → tx.phase ≡ Running → IsUnderway s f place last tx
    → IsRunning tx
running_phase s f place last tx runs under = subst (IsInPhase s place last tx) runs under.phase

-- its records, by its phase
records_in : (s : Setting) (f : Following) (place : Position) (last : Ask) (tx : TxView) (ph : Phase) → tx.phase ≡ ph → IsUnderway s f place last tx
    → HasRecordsIn (left_records tx) ph (all_of tx)
records_in s f place last tx ph is under = subst (λ p. HasRecordsIn (left_records tx) p (all_of tx)) is under.counted.now

-- past silent statements it stands on the same way
same_way : (s : Setting) (old new : Position) → IsSamePosition s old new → stands_at s new ≡ stands_at s old
same_way s old new same = λ i. record { walk = same.walk i; saved = same.saved i }

-- where clients ask, too
client_same : (s : Setting) (f : Following) (old new : Position) → IsSamePosition s old new → IsOfClient s f old → IsOfClient s f new
client_same s f old new same client =
    record {
      variables = ap (λ (w : Walk). w.variables) same.walk ∙ client.variables;
      saved = subst (λ o. IsKeptSo o f.job.variables.values) (sym same.saved) client.saved;
    }

-- ---- after a call
-- where it doesn't go back, the walk is answered, and the block is opened or closed
after_noted : (c : Call) (b : BlockWalk) (reply : Reply) → is_back c ≡ false
    → record { walk = answered b.walk reply; saved = saved_by c b.saved b.walk.variables.values } ≡ block_after_call b c reply
after_noted call.Save b reply ahead = refl
after_noted call.Keep b reply ahead = refl
after_noted call.Back b reply ahead = cc ahead
after_noted _ b reply ahead = refl

-- what it leaves of the handles at the save
noted_sided : (c : Call) (saved : Option SavedView) (copy : SavedView) → All IsSided copy.places → IsSidedSave saved → IsSidedSave (saved_by c saved copy)
noted_sided call.Save saved copy sided was = sided
noted_sided call.Keep saved copy sided was = tt
noted_sided call.Back saved copy sided was = tt
noted_sided _ saved copy sided was = was

grown : (saved : Option SavedView) (pending made : List Undo) → IsWithinSave saved pending → IsWithinSave saved (pending ++ made)
grown None pending made was = tt
grown (Some kept) pending made was = omega (arith, was, length-append pending made)

-- and of the records
noted_within : (c : Call) (saved : Option SavedView) (copy : SavedView) (pending made : List Undo) → copy.trail ≡ pending ++ made → IsWithinSave saved pending
    → IsWithinSave (saved_by c saved copy) (pending ++ made)
noted_within call.Save saved copy pending made is was = omega (arith, ap length is)
noted_within call.Keep saved copy pending made is was = tt
noted_within call.Back saved copy pending made is was = tt
noted_within _ saved copy pending made is was = grown saved pending made was

-- after a call
pub called_underway : (m : Mover) (f : Following) (tx : TxView) (call : Call) (now : Moment) (last : Ask)
    → (has_clients m.setting.script ≡ true → last ≡ ask.End) → is_back call ≡ false → tx.phase ≡ Running → asked_at m.setting m.job ≡ ask.Call call
    → (row : Calls m tx call now) → IsUnderway m.setting f m.job.place (asked_at m.setting m.job) tx
    → IsUnderway m.setting f row.place last (noting tx call row.reply (claims_at m.old tx call) row.parts)
called_underway m f tx call now last unasked ahead runs asked row under =
    let s = m.setting in
    let running = running_phase s f m.job.place (asked_at s m.job) tx runs under in
    let begin = block_from s.script f.job in
    let claims = claims_at m.old tx call in
    let next = noting tx call row.reply claims row.parts in
    let copy = copied (noting_plain tx call row.reply claims row.parts) in
    let was = stands_at s m.job.place in
    let own_ask : IsScripted s.script → asks (walk_of s.script m.job.place) ≡ ask.Call call = λ own. sym (asks_scripted s m.job own) ∙ asked in
    let is : IsScripted s.script → asks (all_replied begin tx.replies).walk ≡ ask.Call call =
    λ own. ap (λ (b : BlockWalk). asks b.walk) (sym (under.ahead own)) ∙ own_ask own in
    let count = in_time-count tx.calls tx.replies under.in_time in
    let pending : row.parts.undo.pending ≡ tx.undo.pending ++ row.made = ap (λ (u : Records). u.pending) row.undo in
    let answers : IsScripted s.script → block_after_call was call row.reply ≡ replied was row.reply =
    λ own. ap (λ a. after_ask was a row.reply) (sym (own_ask own)) in
    let stepped : stands_at s row.place ≡ block_after_call was call row.reply =
    (λ i. record { walk = row.walk i; saved = row.saved i }) ∙ after_noted call was row.reply ahead in
    let w = world_of m.old.contents in
    let phase : IsRunning next = record {
      none = ap (λ u. u.ended) row.undo ∙ running.none;
      no_ends = running.no_ends;
      within = subst (IsWithinSave next.saved) (sym pending) (noted_within call tx.saved copy tx.undo.pending row.made pending running.within);
    } in
    let sided = sided_after tx.number call tx.me row.reply row.parts.me.places row.after.places under.sided in
    let k = left_records tx in
    let more = records-more no_records tx.calls tx.replies call row.reply count in
    let calls = k.now ++ left_by call row.reply in
    let had : AreRecordsOf k.now tx.undo.pending =
    subst (AreRecordsOf k.now) (none_tried tx.undo.pending tx.undo.ended running.none) (records_in s f m.job.place (asked_at s m.job) tx Running runs under) in
    let are : AreRecordsOf calls row.parts.undo.pending = subst (AreRecordsOf calls) (sym pending)
    (more_records k.now (left_by call row.reply) tx.undo.pending row.made had row.kinds) in
    let ended : row.parts.undo.ended ≡ [] = ap (λ (u : Records). u.ended) row.undo ∙ running.none in
    let all : AreRecordsOf calls (all_of next) = subst (AreRecordsOf calls) (sym (none_tried row.parts.undo.pending row.parts.undo.ended ended)) are in
    let now_are : AreRecordsOf (records_with k call row.reply).now (all_of next) =
    subst (λ cs. AreRecordsOf cs (all_of next)) (sym (records_now k call row.reply ahead)) all in
    let longer : length row.parts.undo.pending ≡ length calls = as_many calls row.parts.undo.pending are in
    let counted : IsCounted next (records_with k call row.reply) = record {
      now = subst (λ ph. HasRecordsIn (records_with k call row.reply) ph (all_of next)) (sym runs) now_are;
      saved = records_saved k call row.reply tx.saved copy longer under.counted.saved;
    } in
    record {
      goes_on = under.goes_on;
      left = under.left;
      attempts = under.attempts;
      rank = under.rank;
      since = under.since;
      standing = same_next_tx f m.job.place row.place row.begin under.standing;
      asked = λ own. asks-more begin tx.calls tx.replies call row.reply (under.asked own) (is own);
      ahead = λ own. stepped ∙ answers own ∙ ap (λ (b : BlockWalk). replied b row.reply) (under.ahead own) ∙ sym (answered-more begin tx.replies row.reply);
      client = λ live. record {
        variables = ap (λ (w : Walk). w.variables) (row.walk ∙ answered_live (walk_of s.script m.job.place) row.reply (live_none s.script m.job.place live))
            ∙ (under.client live).variables;
        saved = subst (λ o. IsKeptSo o f.job.variables.values) (sym row.saved)
            (kept_live call m.job.place.saved (values_at m) f.job.variables.values (ap (λ (v : Variables). v.values) (under.client live).variables)
            (under.client live).saved);
      };
      fits = λ live. unasked_fits next.phase next.saved last (unasked live);
      kept = late-more w tx.me tx.number tx.late tx.saved copy tx.calls tx.replies call row.reply ahead row.in_time refl count under.kept;
      in_time = in_time-more tx.calls tx.replies call row.reply
          (record { kept = λ waiting. (tx.me, tx.number, row.in_time.kept waiting); now = row.in_time.now }) under.in_time;
      stored = row.stored;
      sided = sided;
      saved_sided = noted_sided call tx.saved copy sided under.saved_sided;
      together = ap is_some row.saved ∙ open_alike call m.job.place.saved tx.saved (values_at m) copy under.together;
      counted = subst (IsCounted next) (sym more) counted;
      faults = faults-more s.rules.undo_tries no_records tx.calls tx.replies call row.reply count
          (no_faults s.rules.undo_tries (block_records k) row.reply row.no_way_back) under.faults;
      phase = subst (IsInPhase s row.place last next) (sym runs) phase;
    }

-- ---- a block goes back
-- its way back begins
pub begins_back_underway : (s : Setting) (f : Following) (old new : Position) (last : Ask) (tx : TxView) → tx.phase ≡ Running → IsSamePosition s old new
    → IsPastSilent s.script new → last ≡ ask.Call call.Back → IsSome tx.saved
    → IsUnderway s f old last tx → IsUnderway s f new last (record tx { phase = Backing })
begins_back_underway s f old new last tx runs same settled asked opened under =
    let running = running_phase s f old last tx runs under in
    record {
      goes_on = under.goes_on;
      left = under.left;
      attempts = under.attempts;
      rank = under.rank;
      since = under.since;
      standing = same_next_tx f old new same.begin under.standing;
      asked = under.asked;
      ahead = λ own. same_way s old new same ∙ under.ahead own;
      client = λ live. client_same s f old new same (under.client live);
      fits = λ live. tt;
      kept = under.kept;
      in_time = under.in_time;
      stored = under.stored;
      sided = under.sided;
      saved_sided = under.saved_sided;
      together = ap is_some same.saved ∙ under.together;
      counted = record { now = records_in s f old last tx Running runs under; saved = under.counted.saved };
      faults = under.faults;
      phase = record {
        asked = asked;
        settled = settled;
        legal = subst (λ ends. AreLegal s.rules.undo_tries (length tx.undo.pending + 1) ends) (sym running.none) tt;
        undone = subst (All (λ e. is_undone e.1 ≡ true)) (sym running.none) (All-nil (λ (e : Ending). is_undone e.1 ≡ true));
        no_ends = running.no_ends;
        within = by_save tx.saved opened running.within;
      };
    }
  where
    by_save : (o : Option SavedView) → IsSome o → IsWithinSave o tx.undo.pending → IsAboveSave o tx.undo.pending
    by_save None some was = cc some
    by_save (Some kept) some was = was

-- the phase of one whose block goes back
pub backing_phase : (s : Setting) (f : Following) (place : Position) (last : Ask) (tx : TxView) → tx.phase ≡ Backing → IsUnderway s f place last tx
    → IsBacking s place last tx
backing_phase s f place last tx backing under = subst (IsInPhase s place last tx) backing under.phase

-- a record of the block is tried
pub backs_one_underway : (s : Setting) (f : Following) (place : Position) (last : Ask) (tx : TxView) (kept : SavedView) (older : List Undo) (u : Undo)
    (end : UndoEnd)
    → tx.phase ≡ Backing → tx.saved ≡ Some kept → length kept.trail < length tx.undo.pending
    → tx.undo.pending ≡ older ++ u ∷ [] → IsLegalEnd s.rules.undo_tries u end (way_of older u tx.undo)
    → IsUnderway s f place last tx
    → IsUnderway s f place last (record tx { phase = phase_after (length older + 1) end; undo = record { pending = older; ended = (u, end) ∷ tx.undo.ended } })
backs_one_underway s f place last tx kept older u end backs is above newest legal under =
    let backing = backing_phase s f place last tx backs under in
    let next : TxView = record tx { phase = phase_after (length older + 1) end; undo = record { pending = older; ended = (u, end) ∷ tx.undo.ended } } in
    let count : length tx.undo.pending ≡ length older + 1 = ap length newest ∙ length-append older (u ∷ []) in
    let all_legal : AreLegal s.rules.undo_tries (length older + 1) ((u, end) ∷ tx.undo.ended) =
    (legal, subst (λ n. AreLegal s.rules.undo_tries (n + 1) tx.undo.ended) count backing.legal) in
    record {
      goes_on = under.goes_on;
      left = under.left;
      attempts = under.attempts;
      rank = under.rank;
      since = under.since;
      standing = under.standing;
      asked = under.asked;
      ahead = under.ahead;
      client = under.client;
      fits = λ live. fits_so end;
      kept = under.kept;
      in_time = under.in_time;
      stored = under.stored;
      sided = under.sided;
      saved_sided = under.saved_sided;
      together = under.together;
      counted = record {
        now = counted_so end (subst (AreRecordsOf (left_records tx).now) (newest_tried older tx.undo.pending u end tx.undo.ended newest)
            (records_in s f place last tx Backing backs under));
        saved = under.counted.saved;
      };
      faults = under.faults;
      phase = by_end end all_legal backing count;
    }
  where
    fits_so : (e : UndoEnd) → FitsWhereItRuns (phase_after (length older + 1) e) tx.saved last
    fits_so (Undone faults) = tt
    fits_so (Failed done faults) = tt
    fits_so (Blocked by) = tt

    counted_so : (e : UndoEnd) → AreRecordsOf (left_records tx).now (older ++ tried ((u, e) ∷ tx.undo.ended))
        → HasRecordsIn (left_records tx) (phase_after (length older + 1) e) (older ++ tried ((u, e) ∷ tx.undo.ended))
    counted_so (Undone faults) so = so
    counted_so (Failed done faults) so = so
    counted_so (Blocked by) so = so

    saved_count : IsCountedSave (Some kept) (left_records tx).saved
    saved_count = subst (λ o. IsCountedSave o (left_records tx).saved) is under.counted.saved

    by_end : (e : UndoEnd) → AreLegal s.rules.undo_tries (length older + 1) ((u, e) ∷ tx.undo.ended) → IsBacking s place last tx
        → length tx.undo.pending ≡ length older + 1
        → IsInPhase s place last (record tx { phase = phase_after (length older + 1) e; undo = record { pending = older; ended = (u, e) ∷ tx.undo.ended } })
        (phase_after (length older + 1) e)
    by_end (Undone faults) all_legal backing count =
        record {
          asked = backing.asked;
          settled = backing.settled;
          legal = all_legal;
          undone = All-cons (λ (e : Ending). is_undone e.1 ≡ true) (u, Undone faults) tx.undo.ended refl backing.undone;
          no_ends = backing.no_ends;
          within = subst (λ o. IsAboveSave o older) (sym is) (omega (arith, above, count));
        }
    -- it is the newest that failed, and of the block
    by_end (Failed done faults) all_legal backing count =
        record {
          caused = backing.asked;
          legal = all_legal;
          stuck = (
            of_block kept (left_records tx) (length older + 1) saved_count (omega (arith, above, count)),
            record {
              older = [];
              stuck = u;
              done = done;
              faults = faults;
              newer = tx.undo.ended;
              at = omega arith;
              parts = refl;
              undone = backing.undone;
            },
          );
          no_ends = backing.no_ends;
        }
    -- all newer ones are undone, so none stands in its way
    by_end (Blocked by) all_legal backing count =
        let none = none_blocks (length older + 1 + 1) u tx.undo.ended backing.undone in
        let some : None ≡ Some by = sym none ∙ all_legal.0 in
        cc some

-- its block has gone back
pub ends_back_underway : (m : Mover) (f : Following) (tx : TxView) (kept : SavedView) (now : Moment) (last : Ask)
    → (has_clients m.setting.script ≡ true → last ≡ ask.End) → tx.phase ≡ Backing → tx.saved ≡ Some kept → length tx.undo.pending ≤ length kept.trail
    → (row : EndsBack m tx kept now) → IsUnderway m.setting f m.job.place (asked_at m.setting m.job) tx
    → IsUnderway m.setting f row.place last (backed tx kept)
ends_back_underway m f tx kept now last unasked backs is few row under =
    let s = m.setting in
    let tries = s.rules.undo_tries in
    let backing = backing_phase s f m.job.place (asked_at s m.job) tx backs under in
    let begin = block_from s.script f.job in
    let reply = reply.Undone (sum_by undo_faults tx.undo.ended) in
    let was = stands_at s m.job.place in
    let own_ask : IsScripted s.script → asks (walk_of s.script m.job.place) ≡ ask.Call call.Back =
    λ own. sym (asks_scripted s m.job own) ∙ backing.asked in
    let next_is : IsScripted s.script → asks (all_replied begin tx.replies).walk ≡ ask.Call call.Back =
    λ own. ap (λ (b : BlockWalk). asks b.walk) (sym (under.ahead own)) ∙ own_ask own in
    let count = in_time-count tx.calls tx.replies under.in_time in
    let answers : IsScripted s.script → block_after_call was call.Back reply ≡ replied was reply =
    λ own. ap (λ a. after_ask was a reply) (sym (own_ask own)) in
    let stepped : stands_at s row.place ≡ block_after_call was call.Back reply = λ i. record { walk = row.walk i; saved = row.closed i } in
    let k = left_records tx in
    let saved_count : IsCountedSave (Some kept) k.saved = subst (λ o. IsCountedSave o k.saved) is under.counted.saved in
    let above : length kept.trail ≤ length tx.undo.pending = subst (λ o. IsAboveSave o tx.undo.pending) is backing.within in
    let left : length tx.undo.pending ≡ length kept.trail = omega (arith, above, few) in
    let all : AreRecordsOf k.now (all_of tx) = records_in s f m.job.place (asked_at s m.job) tx Backing backs under in
    let (calls, before, same) = counted_block kept k saved_count in
    let (block, front) = subst (λ o. IsInFront o k.now) before (save_in_front no_records tx.calls tx.replies tt) in
    let older : AreRecordsOf calls tx.undo.pending = front_records calls block tx.undo.pending (tried tx.undo.ended) (left ∙ same)
    (subst (λ cs. AreRecordsOf cs (all_of tx)) front all) in
    let now_are : AreRecordsOf (unwrap_or k.saved k.now) (all_of (backed tx kept)) =
    subst (λ o. AreRecordsOf (unwrap_or o k.now) (all_of (backed tx kept))) (sym before)
    (subst (AreRecordsOf calls) (sym (append-nil tx.undo.pending)) older) in
    let many : length tx.undo.pending + length tx.undo.ended ≡ length k.now =
    omega (arith, as_many k.now (all_of tx) all, length-append tx.undo.pending (tried tx.undo.ended), length-map tx.undo.ended (λ (r : Ending). r.0)) in
    let counted : IsCounted (backed tx kept) (records_with k call.Back reply) = record { now = now_are; saved = tt } in
    record {
      goes_on = under.goes_on;
      left = under.left;
      attempts = under.attempts;
      rank = under.rank;
      since = under.since;
      standing = same_next_tx f m.job.place row.place row.begin under.standing;
      asked = λ own. asks-more begin tx.calls tx.replies call.Back reply (under.asked own) (next_is own);
      ahead = λ own. stepped ∙ answers own ∙ ap (λ (b : BlockWalk). replied b reply) (under.ahead own) ∙ sym (answered-more begin tx.replies reply);
      client = λ live. record {
        variables = ap (λ (w : Walk). w.variables) row.walk
            ∙ back_live (walk_of s.script m.job.place) m.job.place.saved f.job.variables (live_none s.script m.job.place live)
            (under.client live).variables (under.client live).saved;
        saved = subst (λ o. IsKeptSo o f.job.variables.values) (sym row.closed) tt;
      };
      fits = λ live. unasked_fits (backed tx kept).phase None last (unasked live);
      kept = back-more tx.late kept tx.calls tx.replies reply count (subst (λ o. AreKeptSo tx.late o (all_kept none_kept tx.calls tx.replies)) is under.kept);
      in_time = in_time-more tx.calls tx.replies call.Back reply (record { kept = λ waiting. cc waiting; now = λ _. refl }) under.in_time;
      stored = under.stored;
      sided = subst IsSidedSave is under.saved_sided;
      saved_sided = tt;
      together = ap is_some row.closed;
      counted = subst (IsCounted (backed tx kept)) (sym (records-more no_records tx.calls tx.replies call.Back reply count)) counted;
      faults = faults-more tries no_records tx.calls tx.replies call.Back reply count
          (few_in_block tries kept k tx.undo.pending tx.undo.ended saved_count left many backing.legal backing.undone) under.faults;
      phase = record {
        none = refl;
        no_ends = backing.no_ends;
        within = tt;
      };
    }

-- a mark cuts its way back short
pub cut_underway : (s : Setting) (f : Following) (place : Position) (last : Ask) (tx : TxView) (m : Mark)
    → tx.phase ≡ Backing → IsUnderway s f place last tx → IsUnderway s f place last (record tx { phase = Undoing (revoked m) })
cut_underway s f place last tx m backs under =
    let backing = backing_phase s f place last tx backs under in
    record {
      goes_on = under.goes_on;
      left = under.left;
      attempts = under.attempts;
      rank = under.rank;
      since = under.since;
      standing = under.standing;
      asked = under.asked;
      ahead = under.ahead;
      client = under.client;
      fits = λ live. tt;
      kept = under.kept;
      in_time = under.in_time;
      stored = under.stored;
      sided = under.sided;
      saved_sided = under.saved_sided;
      together = under.together;
      counted = record { now = records_in s f place last tx Backing backs under; saved = under.counted.saved };
      faults = under.faults;
      phase = record { caused = tt; legal = backing.legal; stuck = tt; no_ends = backing.no_ends };
    }

-- rolling back
pub back_underway : (s : Setting) (f : Following) (old new : Position) (last : Ask) (tx : TxView) (c : Cause) (undo : Records) (held : List Claim)
    → undo.ended ≡ tx.undo.ended → tx.phase ≡ Running → IsSamePosition s old new
    → IsCauseOf c (last)
    → (AreRecordsOf (left_records tx).now tx.undo.pending → HasRecords (left_records tx) c undo.pending)
    → IsStuckIn (saved_records (left_records tx)) (length undo.pending + 1) undo.ended c
    → IsUnderway s f old last tx → IsUnderway s f new last (record tx { phase = Undoing c; undo = undo; held = held })
back_underway s f old new last tx c undo held ended runs same caused count stuck under =
    let running = running_phase s f old last tx runs under in
    let had : AreRecordsOf (left_records tx).now tx.undo.pending =
    subst (AreRecordsOf (left_records tx).now) (none_tried tx.undo.pending tx.undo.ended running.none) (records_in s f old last tx Running runs under) in
    let has : HasRecords (left_records tx) c (undo.pending ++ tried undo.ended) =
    subst (HasRecords (left_records tx) c) (sym (none_tried undo.pending undo.ended (ended ∙ running.none))) (count had) in
    record {
      goes_on = under.goes_on;
      left = under.left;
      attempts = under.attempts;
      rank = under.rank;
      since = under.since;
      standing = same_next_tx f old new same.begin under.standing;
      asked = under.asked;
      ahead = λ own. same_way s old new same ∙ under.ahead own;
      client = λ live. client_same s f old new same (under.client live);
      fits = λ live. tt;
      kept = under.kept;
      in_time = under.in_time;
      stored = under.stored;
      sided = under.sided;
      saved_sided = under.saved_sided;
      together = ap is_some same.saved ∙ under.together;
      counted = record { now = has; saved = under.counted.saved };
      faults = under.faults;
      phase = record {
        caused = caused;
        legal = subst (λ ends. AreLegal s.rules.undo_tries (length undo.pending + 1) ends) (sym (ended ∙ running.none)) tt;
        stuck = stuck;
        no_ends = running.no_ends;
      };
    }

-- passed silent statements at most
pub same_underway : (s : Setting) (f : Following) (old new : Position) (last : Ask) (tx : TxView) → tx.phase ≡ Running → IsSamePosition s old new
    → IsUnderway s f old last tx → IsUnderway s f new last tx
same_underway s f old new last tx runs same under =
    let running = running_phase s f old last tx runs under in
    let phase : IsRunning tx = record {
      none = running.none;
      no_ends = running.no_ends;
      within = running.within;
    } in
    record {
      goes_on = under.goes_on;
      left = under.left;
      attempts = under.attempts;
      rank = under.rank;
      since = under.since;
      standing = same_next_tx f old new same.begin under.standing;
      asked = under.asked;
      ahead = λ own. same_way s old new same ∙ under.ahead own;
      client = λ live. client_same s f old new same (under.client live);
      fits = under.fits;
      kept = under.kept;
      in_time = under.in_time;
      stored = under.stored;
      sided = under.sided;
      saved_sided = under.saved_sided;
      together = ap is_some same.saved ∙ under.together;
      counted = under.counted;
      faults = under.faults;
      phase = subst (IsInPhase s new last tx) (sym runs) phase;
    }

-- over to its commit
pub commits_underway : (s : Setting) (f : Following) (old new : Position) (last : Ask) (tx : TxView) → tx.phase ≡ Running → IsSamePosition s old new
    → IsPastSilent s.script new
    → last ≡ ask.Commit → IsUnderway s f old last tx → IsUnderway s f new last (record tx { phase = Committing })
commits_underway s f old new last tx runs same settled asked under =
    let running = running_phase s f old last tx runs under in
    record {
      goes_on = under.goes_on;
      left = under.left;
      attempts = under.attempts;
      rank = under.rank;
      since = under.since;
      standing = same_next_tx f old new same.begin under.standing;
      asked = under.asked;
      ahead = λ own. same_way s old new same ∙ under.ahead own;
      client = λ live. client_same s f old new same (under.client live);
      fits = λ live. tt;
      kept = under.kept;
      in_time = under.in_time;
      stored = under.stored;
      sided = under.sided;
      saved_sided = under.saved_sided;
      together = ap is_some same.saved ∙ under.together;
      counted = record { now = records_in s f old last tx Running runs under; saved = under.counted.saved };
      faults = under.faults;
      phase = record {
        asked = asked;
        settled = settled;
        none = running.none;
        few_ends = let none = ap length running.no_ends in omega arith;
      };
    }

-- after a late call
pub ended_underway : (s : Setting) (f : Following) (place : Position) (last : Ask) (tx : TxView) (end : LateEnd) → tx.phase ≡ Committing
    → length tx.ends < length tx.late
    → IsUnderway s f place last tx → IsUnderway s f place last (record tx { ends = tx.ends ++ end ∷ [] })
ended_underway s f place last tx end commits some under =
    let next : TxView = record tx { ends = tx.ends ++ end ∷ [] } in
    let committing : IsCommitting s place last tx = subst (IsInPhase s place last tx) commits under.phase in
    let phase : IsCommitting s place last next = record {
      asked = committing.asked;
      settled = committing.settled;
      none = committing.none;
      few_ends = omega (arith, length-append tx.ends (end ∷ []));
    } in
    record {
      goes_on = under.goes_on;
      left = under.left;
      attempts = under.attempts;
      rank = under.rank;
      since = under.since;
      standing = under.standing;
      asked = under.asked;
      ahead = under.ahead;
      client = under.client;
      fits = under.fits;
      kept = under.kept;
      in_time = under.in_time;
      stored = under.stored;
      sided = under.sided;
      saved_sided = under.saved_sided;
      together = under.together;
      counted = record { now = under.counted.now; saved = under.counted.saved };
      faults = under.faults;
      phase = subst (IsInPhase s place last next) (sym commits) phase;
    }

-- where a way back got stuck stays with one end more
stuck_on : (k : Option ℕ) (c : Cause) (from next : ℕ) (e : Ending) (ended : List Ending) → from ≡ next + 1 → IsStuckIn k from ended c
    → IsStuckIn k next (e ∷ ended) c
stuck_on k (cause.Stuck failed) from next e ended one so =
    let newest = so.1 in (
      so.0,
      record {
        older = e ∷ newest.older;
        stuck = newest.stuck;
        done = newest.done;
        faults = newest.faults;
        newer = newest.newer;
        at = omega (arith, newest.at, one);
        parts = ap (λ es. e ∷ es) newest.parts;
        undone = newest.undone;
      },
    )
stuck_on k cause.Asked from next e ended one so = tt
stuck_on k cause.NoMemory from next e ended one so = tt
stuck_on k (cause.Conflict object holder at) from next e ended one so = tt
stuck_on k (cause.Revoked object by at) from next e ended one so = tt

-- after a compensation
pub tried_underway : (s : Setting) (f : Following) (place : Position) (last : Ask) (tx : TxView) (c : Cause) (older : List Undo) (u : Undo) (end : UndoEnd)
    → tx.phase ≡ Undoing c → tx.undo.pending ≡ older ++ u ∷ [] → IsLegalEnd s.rules.undo_tries u end (way_of older u tx.undo)
    → IsUnderway s f place last tx → IsUnderway s f place last (record tx { undo = record { pending = older; ended = (u, end) ∷ tx.undo.ended } })
tried_underway s f place last tx c older u end undoes newest legal under =
    let undoing : IsUndoing s last tx c = subst (IsInPhase s place last tx) undoes under.phase in
    let next : TxView = record tx { undo = record { pending = older; ended = (u, end) ∷ tx.undo.ended } } in
    let count : length tx.undo.pending ≡ length older + 1 = ap length newest ∙ length-append older (u ∷ []) in
    let as_before : all_of tx ≡ all_of next = newest_tried older tx.undo.pending u end tx.undo.ended newest in
    let phase : IsUndoing s last next c = record {
      caused = undoing.caused;
      legal = (legal, subst (λ n. AreLegal s.rules.undo_tries (n + 1) tx.undo.ended) count undoing.legal);
      stuck = stuck_on (saved_records (left_records tx)) c (length tx.undo.pending + 1) (length older + 1) (u, end) tx.undo.ended (omega (arith, count))
          undoing.stuck;
      no_ends = undoing.no_ends;
    } in
    record {
      goes_on = under.goes_on;
      left = under.left;
      attempts = under.attempts;
      rank = under.rank;
      since = under.since;
      standing = under.standing;
      asked = under.asked;
      ahead = under.ahead;
      client = under.client;
      fits = under.fits;
      kept = under.kept;
      in_time = under.in_time;
      stored = under.stored;
      sided = under.sided;
      saved_sided = under.saved_sided;
      together = under.together;
      counted = record { now = subst (HasRecordsIn (left_records tx) tx.phase) as_before under.counted.now; saved = under.counted.saved };
      faults = under.faults;
      phase = subst (IsInPhase s place last next) (sym undoes) phase;
    }

-- ---- a job whose last transaction was aborted for lack of memory
pub starved_told : (s : Setting) (begun entered : ℕ) (f : Following) (job : JobView) → IsScripted s.script → job.doing ≡ Starved
    → StoryHolds s begun entered f job
    → StoryHolds s begun entered f (record job { doing = Ended job_end.NoMemory })
starved_told s begun entered f job own starved told =
    let was = subst (IsDoing s begun f job) starved told.doing in
    record {
      block = told.block;
      fresh = told.fresh;
      sided = told.sided;
      since = told.since;
      attempts = told.attempts;
      few = told.few;
      doing = (own, was.1);
    }

-- one that a client asks goes on
pub fed_told : (s : Setting) (begun entered : ℕ) (f : Following) (job : JobView) → has_clients s.script ≡ true → job.doing ≡ Starved
    → StoryHolds s begun entered f job → StoryHolds s begun entered f (record job { doing = Idle })
fed_told s begun entered f job clients starved told =
    let was = subst (IsDoing s begun f job) starved told.doing in
    record {
      block = told.block;
      fresh = told.fresh;
      sided = told.sided;
      since = told.since;
      attempts = told.attempts;
      few = told.few;
      doing = (λ own. absurd (not_clients s.script clients own), was.2);
    }
