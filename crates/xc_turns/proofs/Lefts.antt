-- Each turn is one of those that were left.
use Rattle.std.proofs.Common.{◌≡◌, ℕ, ◌+◌, ◌-◌, ◌<◌, ◌≤◌, List, [], ◌∷◌, ◌++◌, length, drop}
use Rattle.std.proofs.Common.{refl, ap, sym, ◌∙◌, subst, arith, inl, inr, length-append}
use Rattle.std.proofs.lemmas.List.{drop_all}
use Rattle.std.specs.Prelude.{IsSome, Option, slice_get, slice_set, sum_by, unwrap_or}
use Rattle.std.specs.declared.option.Option.TheVariants.{None, Some}
use Rattle.xc_data.specs.declared.entry.KeptItem.{KeptItem}
use Rattle.xc_data.specs.declared.call.Call.{Call}
use Rattle.xc_data.specs.declared.call.LateCall.{LateCall}
use Rattle.xc_data.specs.declared.claim.Claim.{Claim}
use Rattle.xc_data.specs.declared.entry.Cause.{Cause}
use Rattle.xc_data.specs.declared.entry.Cause.TheVariants as cause
use Rattle.xc_data.specs.declared.entry.Entry.{Entry}
use Rattle.xc_data.specs.declared.entry.JobEnd.TheVariants as job_end
use Rattle.xc_data.specs.declared.entry.Outcome.TheVariants.{Aborted}
use Rattle.xc_data.specs.declared.entry.Turn.{Turn}
use Rattle.xc_data.specs.declared.entry.Turn.TheVariants as turn
use Rattle.xc_data.specs.declared.undo.Undo.{Undo}
use Rattle.xc_compensate.specs.Records.{Records}
use Rattle.xc_host.specs.Contents.{world_of}
use Rattle.xc_text.specs.Stated.{Statement}
use Rattle.xc_script.specs.declared.ask.Ask.{Ask}
use Rattle.xc_script.specs.declared.ask.Ask.TheVariants as ask
use Rattle.xc_script.specs.Ask.{block_place, transactions_at, transactions_of}
use Rattle.xc_script.specs.Asking.{asks}
use Rattle.xc_script.specs.Position.{Position, job_of, walk_of}
use Rattle.xc_script.proofs.Laws.{scripted_body}
use Rattle.xc_model.specs.Live.{IsScripted}
use Rattle.xc_world.specs.Late.{kept_call}
use Rattle.xc_host.specs.Contents.{Contents}
use Rattle.xc_data.specs.declared.entry.Mark.{Mark}
use Rattle.xc_model.specs.declared.phase.Phase.{Phase}
use Rattle.xc_model.specs.declared.phase.Phase.TheVariants.{Running, Committing, Undoing, Backing}
use Rattle.xc_model.specs.Setting.{Setting}
use Rattle.xc_model.specs.Moment.{TxView, JobView, Doing, Idle, Active, Starved, Ended, Moment, failures, begun_count, late_left, rank_of, entering}
use Rattle.xc_model.specs.Moment.{revoked, asked_to_wait}
use Rattle.xc_model.specs.Rows.{IsTurn, TurnOf, ActiveTurn, StarvedTurn}
use Rattle.xc_model.specs.IdleRows.{IdleTurn}
use Rattle.xc_model.specs.RunningRows.{MarkedTurn, RunningTurn, CalledTurn, AskedTurn}
use Rattle.xc_model.specs.BackingRows.{BackingRow, OpenRow, MarkedBack, phase_after, backed}
use Rattle.xc_data.specs.declared.call.Call.TheVariants as call
use Rattle.xc_model.specs.Moment.{SavedView}
use Rattle.std.proofs.Common.{length-drop, length-append}
use Rattle.std.specs.Prelude.{nat_lt, Bool, true, false}
use Rattle.xc_model.specs.CommittingRows.{CommittingTurn}
use Rattle.xc_model.specs.UndoingRows.{UndoingTurn, BackTurn}
use Rattle.xc_model.specs.RunningRows.{Calls, HoldsWanting}
use Rattle.xc_model.specs.Movers.{IsSameBegin, asked_at, body_at}
use Rattle.xc_model.specs.CommittingRows.{LateTurn}
use Rattle.xc_model.specs.Movers.{IsSamePosition, with_tx}
use Rattle.xc_model.specs.Entering.{entry_of, behind_commit, behind_abort}
use Rattle.xc_model.specs.PlainSteps.{noting, wanting, claims_at}
use Rattle.xc_model.specs.IdleRows.{beginning_job}
use Rattle.xc_model.proofs.Laws.{not_clients}
use Rattle.xc_model.specs.Measure.{attempt_turns, bodies_turns, phase_turns, doing_turns, job_turns, most_turns, turns_left}
use Rattle.xc_turns.proofs.Lists.{sum_set_place}
use Rattle.xc_turns.proofs.LateCounts.{kept_few, left_less, left_more, left_some}
use Rattle.xc_turns.proofs.LeftParts.{active_some, ended_is, first_body, first_there, idle_some, rest_there, some_there, starved_is}
use Rattle.std.proofs.Common.{◌*◌, zero, suc, map, length-set}
use Rattle.std.proofs.Math.Nat.{add-mul}
use Rattle.std.proofs.lemmas.List.Sums.{sum_by-append, sum_by-cons, sum_by-le}
use Rattle.std.proofs.lemmas.List.Elements.{All-nil, All-cons}
use Rattle.std.specs.Prelude.{All}
use Rattle.xc_text.specs.declared.script.Block.{Block}
use Rattle.xc_model.specs.LateCalls.{started_late}
use Rattle.xc_model.specs.Entering.{started_job, started_jobs}
use Rattle.xc_model.specs.Movers.{Mover, mover}
use Rattle.xc_turns.proofs.LateEnds.{next_ends}
use Rattle.xc_turns.proofs.LeftParts.{again_falls, begun_falls, called_less, late_less, on_falls, on_stays, passed_falls, tried_less, turned_less}
use Rattle.xc_turns.proofs.LeftParts.{wanting_less, cut_less, backs_less, gone_less}
use Rattle.xc_turns.proofs.LiveSteps.{asks_scripted}

-- ---- one job of all
one_falls : (f : JobView → ℕ) (jobs : List JobView) (at : ℕ) (was is : JobView) → slice_get jobs at ≡ Some was → f is < f was
    → sum_by f (slice_set jobs at is) < sum_by f jobs
one_falls f jobs at was is e less = let parts = sum_set_place f jobs at was is e in omega arith

-- the turns of those that may still be started
abbrev still_started : Setting → List JobView → ℕ
still_started s jobs = (1000 - length jobs) * most_turns s

sum_less : (a b c d : ℕ) → a < b → c ≡ d → a + c < b + d
sum_less a b c d less same = omega arith

sums_less : (all old put more still was much : ℕ) → put < old → all ≡ put + more → more ≤ much → was ≡ still + much → all + still < old + was
sums_less all old put more still was much less sum few split = omega arith

falls_by : (s : Setting) (at : ℕ) (old new : Moment) (was is : JobView) → slice_get old.jobs at ≡ Some was → new.jobs ≡ slice_set old.jobs at is
    → job_turns s is < job_turns s was → turns_left s new < turns_left s old
falls_by s at old new was is e same less =
    subst (λ jobs. sum_by (job_turns s) jobs + still_started s jobs < turns_left s old) (sym same)
    (sum_less (sum_by (job_turns s) (slice_set old.jobs at is)) (sum_by (job_turns s) old.jobs) (still_started s (slice_set old.jobs at is))
    (still_started s old.jobs) (one_falls (job_turns s) old.jobs at was is e less) (ap (λ n. (1000 - n) * most_turns s) (length-set old.jobs at is)))

-- and as many jobs more are live that might have been started
joins_by : (s : Setting) (at : ℕ) (old new : Moment) (was is : JobView) (more : List JobView) → slice_get old.jobs at ≡ Some was
    → new.jobs ≡ slice_set old.jobs at is ++ more → length new.jobs ≤ 1000 → All (λ x. job_turns s x ≤ most_turns s) more
    → job_turns s is < job_turns s was → turns_left s new < turns_left s old
joins_by s at old new was is more e same few small less =
    let f = job_turns s in
    let jobs = slice_set old.jobs at is in
    let many : length (jobs ++ more) ≡ length old.jobs + length more =
    length-append jobs more ∙ ap (λ n. n + length more) (length-set old.jobs at is) in
    let most = length (jobs ++ more) in
    let all : most ≤ 1000 = subst (λ js. length js ≤ 1000) same few in
    let room : 1000 - length old.jobs ≡ (1000 - most) + length more = omega (arith, many, all) in
    let split : still_started s old.jobs ≡ still_started s (jobs ++ more) + length more * most_turns s =
    ap (λ n. n * most_turns s) room ∙ add-mul (1000 - most) (length more) (most_turns s) in
    subst (λ js. sum_by f js + still_started s js < turns_left s old) (sym same)
    (sums_less (sum_by f (jobs ++ more)) (sum_by f old.jobs) (sum_by f jobs) (sum_by f more) (still_started s (jobs ++ more)) (still_started s old.jobs)
    (length more * most_turns s) (one_falls f old.jobs at was is e less) (sum_by-append f jobs more) (sum_by-le f (most_turns s) more small) split)

-- no job that was started has more turns than that
idle_turns : (s : Setting) (at : ℕ) (bodies : List (List Statement)) → doing_turns s 0 at bodies Idle ≡ bodies_turns s bodies + 1
idle_turns s at [] = refl
idle_turns s at (body ∷ bodies) =
    let all : s.rules.attempts - 0 ≡ s.rules.attempts = omega arith in
    ap (λ n. n * attempt_turns s body + bodies_turns s bodies + 1) all
    ∙ ap (λ n. n + 1) (sym (sum_by-cons (λ b. s.rules.attempts * attempt_turns s b) body bodies))

block_few : (s : Setting) (blocks : List Block) (k : ℕ)
    → bodies_turns s (transactions_of (slice_get blocks k)) ≤ sum_by (λ (b : Block). bodies_turns s b.transactions) blocks
block_few s [] k = omega arith
block_few s (b ∷ blocks) zero = omega (arith, sum_by-cons (λ (b : Block). bodies_turns s b.transactions) b blocks)
block_few s (b ∷ blocks) (suc k) = omega (arith, sum_by-cons (λ (b : Block). bodies_turns s b.transactions) b blocks, block_few s blocks k)

started_few : (s : Setting) (starter : JobView) (blocks : List (List ℕ)) → All (λ x. job_turns s x ≤ most_turns s) (map (started_job s.script starter) blocks)
started_few s starter [] = All-nil (λ x. job_turns s x ≤ most_turns s)
started_few s starter (block ∷ blocks) =
    let mine = started_job s.script starter block in
    let turns = idle_turns s mine.place.at (transactions_at s.script (block_place s.script block)) in
    let few = block_few s s.script.blocks (block_place s.script block) in
    All-cons (λ x. job_turns s x ≤ most_turns s) mine (map (started_job s.script starter) blocks) (omega (arith, turns, few)) (started_few s starter blocks)

-- the bodies from a place on
abbrev bodies_at : Setting → Position → List (List Statement)
bodies_at s place = drop place.next (transactions_at s.script place.block)

-- fewer than what is left of what a job does
below_doing : (s : Setting) (job : JobView) (d : Doing) (n : ℕ) → job.doing ≡ d
    → n < doing_turns s (failures job.attempts) job.place.at (bodies_at s job.place) d → n < job_turns s job
below_doing s job d n is less =
    let lt = subst (λ e. n < doing_turns s (failures job.attempts) job.place.at (bodies_at s job.place) e) (sym is) less in omega arith

-- the same with the patience that is left
below_same : (s : Setting) (job : JobView) (d : Doing) (n : ℕ) → job.doing ≡ d
    → n < doing_turns s (failures job.attempts) job.place.at (bodies_at s job.place) d → (s.rules.patience - job.busy) + n < job_turns s job
below_same s job d n is less =
    let lt = subst (λ e. n < doing_turns s (failures job.attempts) job.place.at (bodies_at s job.place) e) (sym is) less in omega arith

-- where it is told to wait less patience is left
below_waiting : (s : Setting) (job : JobView) (d : Doing) (n : ℕ) → job.doing ≡ d → job.busy < s.rules.patience
    → n ≤ doing_turns s (failures job.attempts) job.place.at (bodies_at s job.place) d → (s.rules.patience - (job.busy + 1)) + n < job_turns s job
below_waiting s job d n is patient less =
    let le = subst (λ e. n ≤ doing_turns s (failures job.attempts) job.place.at (bodies_at s job.place) e) (sym is) less in omega arith

-- ---- an idle job
idle_falls : (s : Setting) (own : IsScripted s.script) (at : ℕ) (old new : Moment) (job : JobView) (answer : Turn) → slice_get old.jobs at ≡ Some job
    → job.doing ≡ Idle
    → IdleTurn (mover s at old job) answer new → turns_left s new < turns_left s old
idle_falls s own at old new job turn.Went stands is (ready, same) =
    falls_by s at old new job (beginning_job old job) stands (ap (λ (n : Moment). n.jobs) same)
    (below_doing s job Idle (job_turns s (beginning_job old job)) is
    (begun_falls s (failures job.attempts) job.place.at (bodies_at s job.place) (begun_count old + 1) (rank_of job.attempts (begun_count old + 1))
    (length old.journal) job.me ready.attempts (some_there (transactions_at s.script job.place.block) job.place.next
    (subst IsSome (scripted_body s.script (job_of job.place) own) ready.left))))
idle_falls s own at old new job (turn.Ended end) stands is (ending, same) =
    let bodies = bodies_at s job.place in
    falls_by s at old new job (record job { doing = Ended end }) stands (ap (λ (n : Moment). n.jobs) same)
    (subst (λ n. (s.rules.patience - job.busy) + n < job_turns s job) (sym (ended_is s (failures job.attempts) job.place.at bodies end))
    (below_same s job Idle 0 is (idle_some s (failures job.attempts) job.place.at bodies)))
idle_falls s own at old new job (turn.Busy object number) stands is (waits, same) =
    let now_left = doing_turns s (failures job.attempts) job.place.at (bodies_at s job.place) job.doing in
    falls_by s at old new job (asked_to_wait job) stands (ap (λ (n : Moment). n.jobs) same)
    (below_waiting s job job.doing now_left refl waits.patient (omega arith))
idle_falls s own at old new job turn.NoMemory stands is h = absurd (not_clients s.script h.0 own)

-- ---- a job with an active transaction that goes on
moves_on : (s : Setting) (at : ℕ) (old new : Moment) (job : JobView) (place : Position) (handed : Option Ask) (tx next : TxView)
    → slice_get old.jobs at ≡ Some job
    → job.doing ≡ Active tx → new.jobs ≡ slice_set old.jobs at (record job { place = place; handed = handed; doing = Active next })
    → IsSameBegin job.place place
    → ((n : ℕ) → n ≡ length (first_body (bodies_at s job.place))
    → phase_turns n place.at next next.phase < phase_turns n job.place.at tx tx.phase)
    → turns_left s new < turns_left s old
moves_on s at old new job place handed tx next stands is jobs begin falls =
    let moved : doing_turns s (failures job.attempts) place.at (bodies_at s place) (Active next)
    ≡ doing_turns s (failures job.attempts) place.at (bodies_at s job.place) (Active next) =
    λ i. doing_turns s (failures job.attempts) place.at (drop (begin.next i) (transactions_at s.script (begin.block i))) (Active next) in
    falls_by s at old new job (record job { place = place; handed = handed; doing = Active next }) stands jobs
    (subst (λ n. (s.rules.patience - job.busy) + n < job_turns s job) (sym moved)
    (below_same s job (Active tx) (doing_turns s (failures job.attempts) place.at (bodies_at s job.place) (Active next)) is
    (on_falls s (failures job.attempts) job.place.at place.at (bodies_at s job.place) tx next falls)))

goes_on : (s : Setting) (at : ℕ) (old new : Moment) (job : JobView) (place : Position) (tx next : TxView) → slice_get old.jobs at ≡ Some job
    → job.doing ≡ Active tx → new.jobs ≡ slice_set old.jobs at (with_tx job place next) → IsSameBegin job.place place
    → ((n : ℕ) → n ≡ length (first_body (bodies_at s job.place))
    → phase_turns n place.at next next.phase < phase_turns n job.place.at tx tx.phase)
    → turns_left s new < turns_left s old
goes_on s at old new job place tx next stands is jobs begin falls = moves_on s at old new job place job.handed tx next stands is jobs begin falls

-- ---- a call
-- where nothing is left the commit is asked
commits_past : (s : Setting) (place : Position) → drop place.at (unwrap_or (body_at s place) []) ≡ [] → asks (walk_of s.script place) ≡ ask.Commit
commits_past s place e = rw e

-- a call is asked before the end
asked_before : (s : Setting) (own : IsScripted s.script) (job : JobView) (call : Call) → asked_at s job ≡ ask.Call call
    → job.place.at < length (first_body (bodies_at s job.place))
asked_before s own job call e =
    let place = job.place in
    let is : asks (walk_of s.script place) ≡ ask.Call call = sym (asks_scripted s job own) ∙ e in
    let body = unwrap_or (body_at s place) [] in
    let there : length body ≡ length (first_body (bodies_at s place)) =
    ap (λ (o : Option (List Statement)). length (unwrap_or o [])) (scripted_body s.script (job_of place) own)
    ∙ ap length (first_there (transactions_at s.script place.block) place.next) in
    let within : length body ≤ place.at → ⊥ = λ le. let past = commits_past s place (drop_all place.at body le) in cc in
    omega arith

call_falls : (s : Setting) (own : IsScripted s.script) (at : ℕ) (old new : Moment) (job : JobView) (tx : TxView) (call : Call)
    → slice_get old.jobs at ≡ Some job
    → job.doing ≡ Active tx → tx.phase ≡ Running → asked_at s job ≡ ask.Call call → Calls (mover s at old job) tx call new
    → turns_left s new < turns_left s old
call_falls s own at old new job tx call stands is runs asked c =
    let noted : TxView = noting tx call c.reply (claims_at old tx call) c.parts in
    let records : length c.parts.undo.pending ≡ length tx.undo.pending + length c.made =
    ap (λ (u : Records). length u.pending) c.undo ∙ length-append tx.undo.pending c.made in
    let one = c.one in
    moves_on s at old new job c.place None tx noted stands is (ap (λ (n : Moment). n.jobs) c.behind) c.begin
    (λ n e. called_less n job.place.at c.place.at tx noted runs refl (c.nearer own) (omega (arith, asked_before s own job call asked)) (omega arith)
    (left_more tx.late (kept_call call tx.me c.reply) (length tx.ends) (kept_few (world_of old.contents) tx.me tx.number call c.reply c.in_time)))

-- ---- a transaction that leaves its running
turn_falls : (s : Setting) (at : ℕ) (old new : Moment) (job : JobView) (place : Position) (tx next : TxView) → slice_get old.jobs at ≡ Some job
    → job.doing ≡ Active tx → tx.phase ≡ Running → new.jobs ≡ slice_set old.jobs at (with_tx job place next) → IsSamePosition s job.place place
    → (next.phase ≡ Running → ⊥) → length next.undo.pending ≡ length tx.undo.pending → length (late_left next) ≡ length (late_left tx)
    → turns_left s new < turns_left s old
turn_falls s at old new job place tx next stands is runs jobs same other records kept =
    goes_on s at old new job place tx next stands is jobs same.begin
    (λ n e. turned_less n job.place.at place.at tx next tx.phase next.phase same.at runs other records kept)

called_falls : (s : Setting) (own : IsScripted s.script) (at : ℕ) (old new : Moment) (job : JobView) (tx : TxView) (c : Call) → slice_get old.jobs at ≡ Some job
    → job.doing ≡ Active tx
    → tx.phase ≡ Running → asked_at s job ≡ ask.Call c → CalledTurn (mover s at old job) tx c new → turns_left s new < turns_left s old
called_falls s own at old new job tx call.Back stands is runs asked row =
    turn_falls s at old new job row.place tx (record tx { phase = Backing }) stands is runs (ap (λ (n : Moment). n.jobs) row.behind) row.same
    (λ e. cc) refl refl
called_falls s own at old new job tx c stands is runs asked (inl row) = call_falls s own at old new job tx c stands is runs asked row
called_falls s own at old new job tx c stands is runs asked (inr row) =
    turn_falls s at old new job row.place tx (record tx { phase = Undoing (cause.Conflict row.object row.holder (length old.journal)) }) stands is runs
    (ap (λ (n : Moment). n.jobs) row.behind) row.same (λ e. cc) refl refl

-- ---- one whose block goes back
record_falls : (s : Setting) (own : IsScripted s.script) (at : ℕ) (old new : Moment) (job : JobView) (tx : TxView) (kept : SavedView) (b : Bool)
    → slice_get old.jobs at ≡ Some job
    → job.doing ≡ Active tx → tx.phase ≡ Backing → BackingRow (mover s at old job) tx kept b new → turns_left s new < turns_left s old
record_falls s own at old new job tx kept true stands is backs t =
    let next : TxView = record tx {
      phase = phase_after (length t.older + 1) t.end;
      undo = record { pending = t.older; ended = (t.tried, t.end) ∷ tx.undo.ended };
    } in
    goes_on s at old new job job.place tx next stands is (ap (λ (n : Moment). n.jobs) t.behind) (record { block = refl; next = refl; begun = refl })
    (λ n e. backs_less n job.place.at (length t.older + 1) tx next t.tried t.end tx.phase backs t.newest refl)
record_falls s own at old new job tx kept false stands is backs t =
    let ends = length tx.ends in
    moves_on s at old new job t.place None tx (backed tx kept) stands is (ap (λ (n : Moment). n.jobs) t.behind) t.begin
    (λ n e. gone_less n job.place.at t.place.at tx (backed tx kept) tx.phase backs (t.nearer own)
    (omega (arith, e, asked_before s own job call.Back t.asked)) refl
    (omega (arith, length-drop ends kept.late, length-drop ends tx.late, ap length t.cut, length-append kept.late t.more)))

open_falls : (s : Setting) (own : IsScripted s.script) (at : ℕ) (old new : Moment) (job : JobView) (tx : TxView) (k : Option SavedView)
    → slice_get old.jobs at ≡ Some job
    → job.doing ≡ Active tx → tx.phase ≡ Backing → OpenRow (mover s at old job) tx k new → turns_left s new < turns_left s old
open_falls s own at old new job tx None stands is backs row = absurd row
open_falls s own at old new job tx (Some kept) stands is backs row =
    record_falls s own at old new job tx kept (nat_lt (length kept.trail) (length tx.undo.pending)) stands is backs row

back_marked_falls : (s : Setting) (own : IsScripted s.script) (at : ℕ) (old new : Moment) (job : JobView) (tx : TxView) (m : Option Mark) (answer : Turn)
    → slice_get old.jobs at ≡ Some job
    → job.doing ≡ Active tx → tx.phase ≡ Backing → MarkedBack (mover s at old job) tx m answer new → turns_left s new < turns_left s old
back_marked_falls s own at old new job tx None turn.Went stands is backs row = open_falls s own at old new job tx tx.saved stands is backs row
back_marked_falls s own at old new job tx None _ stands is backs row = absurd row
back_marked_falls s own at old new job tx (Some m) turn.Went stands is backs row =
    let next : TxView = record tx { phase = Undoing (revoked m) } in
    goes_on s at old new job job.place tx next stands is (ap (λ (n : Moment). n.jobs) row) (record { block = refl; next = refl; begun = refl })
    (λ n e. cut_less n job.place.at (revoked m) tx next tx.phase backs refl)
back_marked_falls s own at old new job tx (Some m) _ stands is backs row = absurd row

ask_falls : (s : Setting) (own : IsScripted s.script) (at : ℕ) (old new : Moment) (job : JobView) (tx : TxView) (a : Ask) → slice_get old.jobs at ≡ Some job
    → job.doing ≡ Active tx
    → tx.phase ≡ Running → asked_at s job ≡ a → AskedTurn (mover s at old job) tx a new → turns_left s new < turns_left s old
ask_falls s own at old new job tx (ask.Call c) stands is runs asked row = called_falls s own at old new job tx c stands is runs asked row
ask_falls s own at old new job tx ask.Commit stands is runs asked c =
    turn_falls s at old new job c.place tx (record tx { phase = Committing }) stands is runs (ap (λ (n : Moment). n.jobs) c.behind) c.same (λ e. cc) refl refl
ask_falls s own at old new job tx ask.Abort stands is runs asked c =
    turn_falls s at old new job c.place tx (record tx { phase = Undoing cause.Asked }) stands is runs (ap (λ (n : Moment). n.jobs) c.behind) c.same
    (λ e. cc) refl refl
ask_falls s own at old new job tx ask.End stands is runs asked c = absurd c

-- what left a record is a call, whose statement is still to come
left_before : (m : Mover) (own : IsScripted m.setting.script) (tx : TxView) (a : Ask) (left : List Undo) (held : List Claim) → asked_at m.setting m.job ≡ a
    → length left ≤ 1
    → HoldsWanting m tx a left held → length left ≤ length (first_body (bodies_at m.setting m.job.place)) - m.job.place.at
left_before m own tx (ask.Call call) left held asked one holds = omega (arith, asked_before m.setting own m.job call asked)
left_before m own tx ask.Commit left held asked one kept = let none = ap length kept.0 in omega arith
left_before m own tx ask.Abort left held asked one kept = let none = ap length kept.0 in omega arith
left_before m own tx ask.End left held asked one kept = let none = ap length kept.0 in omega arith

running_falls : (s : Setting) (own : IsScripted s.script) (at : ℕ) (old new : Moment) (job : JobView) (tx : TxView) (answer : Turn)
    → slice_get old.jobs at ≡ Some job
    → job.doing ≡ Active tx → tx.phase ≡ Running → RunningTurn (mover s at old job) tx answer new → turns_left s new < turns_left s old
running_falls s own at old new job tx turn.Went stands is runs h = ask_falls s own at old new job tx (asked_at s job) stands is runs refl h
running_falls s own at old new job tx turn.NoMemory stands is runs c =
    goes_on s at old new job c.place tx (wanting tx c.left c.held) stands is (ap (λ (n : Moment). n.jobs) c.behind) c.same.begin
    (λ n e. subst (λ m. m + 2 < phase_turns n job.place.at tx tx.phase) (sym (length-append tx.undo.pending c.left))
    (wanting_less n job.place.at (length c.left) tx tx.phase runs
    (subst (λ m. length c.left ≤ m - job.place.at) (sym e) (left_before (mover s at old job) own tx (asked_at s job) c.left c.held refl c.one c.holds))))
running_falls s own at old new job tx (turn.Busy object holder) stands is runs w =
    let moved : doing_turns s (failures job.attempts) w.place.at (bodies_at s w.place) (Active tx)
    ≡ doing_turns s (failures job.attempts) w.place.at (bodies_at s job.place) (Active tx) =
    λ i. doing_turns s (failures job.attempts) w.place.at (drop (w.same.begin.next i) (transactions_at s.script (w.same.begin.block i))) (Active tx) in
    falls_by s at old new job (asked_to_wait (with_tx job w.place tx)) stands (ap (λ (n : Moment). n.jobs) w.behind)
    (subst (λ n. (s.rules.patience - (job.busy + 1)) + n < job_turns s job) (sym moved)
    (below_waiting s job (Active tx) (doing_turns s (failures job.attempts) w.place.at (bodies_at s job.place) (Active tx)) is w.patient
    (on_stays s (failures job.attempts) job.place.at w.place.at (bodies_at s job.place) tx runs w.same.at)))
running_falls s own at old new job tx (turn.Ended end) stands is runs h = absurd h

-- a marked one turns back
marked_falls : (s : Setting) (own : IsScripted s.script) (at : ℕ) (old new : Moment) (job : JobView) (tx : TxView) (m : Option Mark) (answer : Turn)
    → slice_get old.jobs at ≡ Some job
    → job.doing ≡ Active tx → tx.phase ≡ Running → MarkedTurn (mover s at old job) tx m answer new → turns_left s new < turns_left s old
marked_falls s own at old new job tx None answer stands is runs h = running_falls s own at old new job tx answer stands is runs h
marked_falls s own at old new job tx (Some m) turn.Went stands is runs same =
    turn_falls s at old new job job.place tx (record tx { phase = Undoing (revoked m) }) stands is runs (ap (λ (n : Moment). n.jobs) same)
    (record { begin = record { block = refl; next = refl; begun = refl }; walk = refl; saved = refl; at = omega arith }) (λ e. cc) refl refl
marked_falls s own at old new job tx (Some m) turn.NoMemory stands is runs h = absurd h
marked_falls s own at old new job tx (Some m) (turn.Busy object holder) stands is runs h = absurd h
marked_falls s own at old new job tx (Some m) (turn.Ended end) stands is runs h = absurd h

-- ---- an entry
enters : (s : Setting) (at : ℕ) (old new : Moment) (job next : JobView) (tx : TxView) (entry : Entry) (contents : Contents) (kept : List KeptItem)
    → slice_get old.jobs at ≡ Some job → job.doing ≡ Active tx → new ≡ record (entering old at next entry) { contents = contents; kept = kept }
    → job_turns s next < doing_turns s (failures job.attempts) job.place.at (bodies_at s job.place) (Active tx) → turns_left s new < turns_left s old
enters s at old new job next tx entry contents kept stands is same less =
    falls_by s at old new job next stands (ap (λ (n : Moment). n.jobs) same) (below_doing s job (Active tx) (job_turns s next) is less)

passes : (s : Setting) (job : JobView) (tx : TxView)
    → (s.rules.patience - 0) + doing_turns s 0 0 (drop (job.place.next + 1) (transactions_at s.script job.place.block)) Idle
    < doing_turns s (failures job.attempts) job.place.at (bodies_at s job.place) (Active tx)
passes s job tx =
    subst (λ bs. (s.rules.patience - 0) + doing_turns s 0 0 bs Idle < doing_turns s (failures job.attempts) job.place.at (bodies_at s job.place) (Active tx))
    (sym (rest_there (transactions_at s.script job.place.block) job.place.next))
    (passed_falls s (failures job.attempts) job.place.at (bodies_at s job.place) tx)

late_falls : (s : Setting) (at : ℕ) (old new : Moment) (job : JobView) (tx : TxView) (calls : List LateCall) → slice_get old.jobs at ≡ Some job
    → job.doing ≡ Active tx → tx.phase ≡ Committing → late_left tx ≡ calls → LateTurn (mover s at old job) tx calls new → turns_left s new < turns_left s old
late_falls s at old new job tx [] stands is commits none same =
    joins_by s at old new job (behind_commit job tx) (started_jobs s.script job tx) stands (ap (λ (n : Moment). n.jobs) same.0) same.1
    (started_few s (behind_commit job tx) (started_late tx.late tx.ends)) (below_doing s job (Active tx) (job_turns s (behind_commit job tx)) is
    (passes s job tx))
late_falls s at old new job tx (call ∷ calls) stands is commits some row =
    let t = next_ends s at old job tx new call row in
    let next : TxView = record tx { ends = tx.ends ++ t.end ∷ [] } in
    goes_on s at old new job job.place tx next stands is t.jobs (record { block = refl; next = refl; begun = refl })
    (λ n e. late_less n job.place.at tx next tx.phase commits (left_less tx.late tx.ends t.end (left_some tx.late tx.ends call calls some)))

commit_falls : (s : Setting) (at : ℕ) (old new : Moment) (job : JobView) (tx : TxView) (answer : Turn) → slice_get old.jobs at ≡ Some job
    → job.doing ≡ Active tx → tx.phase ≡ Committing → CommittingTurn (mover s at old job) tx answer new → turns_left s new < turns_left s old
commit_falls s at old new job tx turn.Went stands is commits h = late_falls s at old new job tx (late_left tx) stands is commits refl h
commit_falls s at old new job tx turn.NoMemory stands is commits h = absurd h
commit_falls s at old new job tx (turn.Busy object holder) stands is commits h = absurd h
commit_falls s at old new job tx (turn.Ended end) stands is commits h = absurd h

abort_less : (s : Setting) (job : JobView) (tx : TxView) (c : Cause)
    → job_turns s (behind_abort job tx c) < doing_turns s (failures job.attempts) job.place.at (bodies_at s job.place) (Active tx)
abort_less s job tx (cause.Stuck failed) = passes s job tx
abort_less s job tx cause.Asked = passes s job tx
abort_less s job tx cause.NoMemory =
    let bodies = bodies_at s job.place in
    let failed = failures job.attempts in
    subst (λ n. (s.rules.patience - 0) + n < doing_turns s failed job.place.at bodies (Active tx)) (sym (starved_is s failed 0 bodies))
    (active_some s failed job.place.at bodies tx)
abort_less s job tx (cause.Conflict object holder at) = again_falls s (failures job.attempts) job.place.at (bodies_at s job.place) tx
abort_less s job tx (cause.Revoked object by at) = again_falls s (failures job.attempts) job.place.at (bodies_at s job.place) tx

-- ---- the rollback
back_falls : (s : Setting) (at : ℕ) (old new : Moment) (job : JobView) (tx : TxView) (c : Cause) (pending : List Undo) → slice_get old.jobs at ≡ Some job
    → job.doing ≡ Active tx → tx.phase ≡ Undoing c → BackTurn (mover s at old job) tx c pending new → turns_left s new < turns_left s old
back_falls s at old new job tx c [] stands is undoes same =
    enters s at old new job (behind_abort job tx c) tx (entry_of tx at (Aborted (record { cause = c; records = tx.undo.ended }))) new.contents new.kept stands
    is same.behind
    (abort_less s job tx c)
back_falls s at old new job tx c (u ∷ pending) stands is undoes t =
    let next : TxView = record tx { undo = record { pending = t.older; ended = (t.tried, t.end) ∷ tx.undo.ended } } in
    goes_on s at old new job job.place tx next stands is (ap (λ (n : Moment). n.jobs) t.behind) (record { block = refl; next = refl; begun = refl })
    (λ n e. tried_less n job.place.at c tx next t.tried tx.phase undoes t.newest)

undoing_falls : (s : Setting) (at : ℕ) (old new : Moment) (job : JobView) (tx : TxView) (c : Cause) (answer : Turn) → slice_get old.jobs at ≡ Some job
    → job.doing ≡ Active tx → tx.phase ≡ Undoing c → UndoingTurn (mover s at old job) tx c answer new → turns_left s new < turns_left s old
undoing_falls s at old new job tx c turn.Went stands is undoes h = back_falls s at old new job tx c tx.undo.pending stands is undoes h
undoing_falls s at old new job tx c turn.NoMemory stands is undoes h = absurd h
undoing_falls s at old new job tx c (turn.Busy object holder) stands is undoes h = absurd h
undoing_falls s at old new job tx c (turn.Ended end) stands is undoes h = absurd h

-- ---- all rows
active_falls : (s : Setting) (own : IsScripted s.script) (at : ℕ) (old new : Moment) (job : JobView) (tx : TxView) (p : Phase) (answer : Turn)
    → slice_get old.jobs at ≡ Some job
    → job.doing ≡ Active tx → tx.phase ≡ p → ActiveTurn (mover s at old job) tx p answer new → turns_left s new < turns_left s old
active_falls s own at old new job tx Running answer stands is phase h =
    marked_falls s own at old new job tx (old.marks tx.number) answer stands is phase h
active_falls s own at old new job tx Committing answer stands is phase h = commit_falls s at old new job tx answer stands is phase h
active_falls s own at old new job tx Backing answer stands is phase h =
    back_marked_falls s own at old new job tx (old.marks tx.number) answer stands is phase h
active_falls s own at old new job tx (Undoing c) answer stands is phase h = undoing_falls s at old new job tx c answer stands is phase h

starved_falls : (s : Setting) (own : IsScripted s.script) (at : ℕ) (old new : Moment) (job : JobView) (answer : Turn) → slice_get old.jobs at ≡ Some job
    → job.doing ≡ Starved → StarvedTurn (mover s at old job) answer new → turns_left s new < turns_left s old
starved_falls s own at old new job (turn.Ended job_end.NoMemory) stands is same =
    let bodies = bodies_at s job.place in
    let failed = failures job.attempts in
    falls_by s at old new job (record job { doing = Ended job_end.NoMemory }) stands (ap (λ (n : Moment). n.jobs) same.1)
    (subst (λ n. (s.rules.patience - job.busy) + n < job_turns s job) (sym (ended_is s failed job.place.at bodies job_end.NoMemory))
    (below_same s job Starved 0 is (omega (arith, starved_is s failed job.place.at bodies))))
starved_falls s own at old new job (turn.Ended job_end.Done) stands is h = absurd h
starved_falls s own at old new job (turn.Ended (job_end.GaveUp c)) stands is h = absurd h
starved_falls s own at old new job (turn.Ended job_end.JournalFull) stands is h = absurd h
starved_falls s own at old new job turn.Went stands is h = absurd (not_clients s.script h.0 own)
starved_falls s own at old new job turn.NoMemory stands is h = absurd h
starved_falls s own at old new job (turn.Busy object holder) stands is h = absurd h

doing_falls : (s : Setting) (own : IsScripted s.script) (at : ℕ) (old new : Moment) (job : JobView) (d : Doing) (answer : Turn)
    → slice_get old.jobs at ≡ Some job → job.doing ≡ d
    → TurnOf (mover s at old job) d answer new → turns_left s new < turns_left s old
doing_falls s own at old new job Idle answer stands is h = idle_falls s own at old new job answer stands is h
doing_falls s own at old new job (Active tx) answer stands is h = active_falls s own at old new job tx tx.phase answer stands is refl h
doing_falls s own at old new job Starved answer stands is h = starved_falls s own at old new job answer stands is h
doing_falls s own at old new job (Ended end) answer stands is h = absurd h

-- each turn leaves fewer
pub leaves_fewer : (s : Setting) (at : ℕ) (old new : Moment) (answer : Turn) → IsScripted s.script → IsTurn s at old answer new
    → turns_left s new < turns_left s old
leaves_fewer s at old new answer own h = doing_falls s own at old new h.job h.job.doing answer h.there refl h.row
