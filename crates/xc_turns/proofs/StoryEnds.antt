-- A transaction enters the journal, and its job goes on after it.
use Rattle.std.proofs.Common.{◌≡◌, ℕ, ◌+◌, ◌≤◌, List, [], ◌∷◌, ◌++◌, length, zero, suc, refl, ap, ap₂, sym, ◌∙◌, subst, arith, length-append, length-set}
use Rattle.std.specs.Prelude.{All, IsPermutation, Option, map, slice_get, slice_set, unwrap_or}
use Rattle.std.specs.declared.option.Option.TheVariants.{None, Some}
use Rattle.std.proofs.lemmas.List.Sorted.{length_permutation}
use Rattle.xc_data.specs.declared.entry.Cause.{Cause}
use Rattle.xc_data.specs.declared.entry.Cause.TheVariants as cause
use Rattle.xc_data.specs.declared.entry.Entry.{Entry}
use Rattle.xc_data.specs.Private.{IsSided}
use Rattle.xc_world.specs.World.{beginning}
use Rattle.xc_script.specs.declared.ask.Ask.{Ask}
use Rattle.xc_script.specs.Ask.{Job}
use Rattle.xc_script.specs.Values.{Variables}
use Rattle.xc_script.specs.Position.{at_begin}
use Rattle.xc_script.specs.Slots.{with_ends}
use Rattle.xc_script.specs.Blocks.{kept_calls}
use Rattle.xc_model.specs.declared.phase.Attempts.{Attempts}
use Rattle.xc_model.specs.declared.phase.Phase.TheVariants.{Committing}
use Rattle.xc_model.specs.Setting.{Setting}
use Rattle.xc_model.specs.Live.{most_entries}
use Rattle.xc_model.specs.Progress.{Following, Progress, after_entry, following_abort, progress_of, started_from, started_following as progress_started}
use Rattle.xc_model.specs.Joint.{IsTrueEntry}
use Rattle.xc_model.specs.Movers.{asked_at}
use Rattle.xc_model.specs.Moment.{TxView, JobView, Active, Idle, active_of}
use Rattle.xc_model.specs.Entering.{attempts_with, behind_abort, behind_commit, entry_of, started_job}
use Rattle.xc_model.specs.Stories.{AreAttempts, IsCommitting, IsDoing, IsInPhase, StoryHolds, IsUnderway, active_begin, begins_of, entry_begin}
use Rattle.xc_turns.proofs.Grown.{AreIdle, grown_actives}
use Rattle.xc_data.proofs.Laws.{get_set_same, get_set_other}
use Rattle.xc_turns.proofs.Progressing.{progress-more, true-more}
use Rattle.xc_turns.proofs.StoryBegins.{begins_count, begins_entered, begins_moved}
use Rattle.xc_turns.proofs.StoryJobs.{JobStoriesHold, StoriesHoldBut, begun_in, told_append, told_in_place}
use Rattle.xc_turns.proofs.StoryRows.{attempts_count}
use Rattle.xc_turns.proofs.LiveSteps.{variables_behind}
use Rattle.xc_turns.proofs.StoryEntries.{aborted_by, gone_on}

-- ---- an entry after the journal
-- all is told after it, where its job is, and the jobs that it started
pub enters : (s : Setting) (lasts : List Ask) (journal : List Entry) (jobs more : List JobView) (at : ℕ) (job next : JobView) (tx : TxView) (last : Ask)
    (e : Entry) (f g : Following) (gs : List Following)
    → slice_get jobs at ≡ Some job → active_of job ≡ Some tx → active_of next ≡ None → entry_begin e ≡ active_begin tx
    → slice_get (progress_of s.script journal).jobs at ≡ Some f
    → (after_entry s.script (progress_of s.script journal) e).jobs ≡ slice_set (progress_of s.script journal).jobs at g ++ gs
    → length gs ≡ length more → AreIdle more → JobStoriesHold s (begun_in journal jobs) (length journal + 1) gs more
    → IsTrueEntry s (progress_of s.script journal) last e → StoryHolds s (begun_in journal jobs) (length journal + 1) g next
    → StoriesHoldBut s lasts journal jobs → StoriesHoldBut s (lasts ++ last ∷ []) (journal ++ e ∷ []) (slice_set jobs at next ++ more)
enters s lasts journal jobs more_jobs at job next tx last e f g gs stands some none same got leads even idle started one mine told =
    let p = progress_of s.script journal in
    let fs = p.jobs in
    let n = begun_in journal jobs in
    let set_jobs = slice_set jobs at next in
    let next_jobs = set_jobs ++ more_jobs in
    let more : IsPermutation (begins_of journal jobs) (begins_of (journal ++ e ∷ []) next_jobs) =
    subst (λ ts. IsPermutation (begins_of journal jobs) (map entry_begin (journal ++ e ∷ []) ++ map active_begin ts))
    (sym (grown_actives set_jobs more_jobs idle))
    (begins_entered journal jobs at job next tx e stands some none same) in
    let length_is : length (journal ++ e ∷ []) ≡ length journal + 1 = length-append journal (e ∷ []) in
    let as_many : length (begins_of (journal ++ e ∷ []) next_jobs) ≡ length (begins_of journal jobs) =
    length_permutation (begins_of journal jobs) (begins_of (journal ++ e ∷ []) next_jobs) more in
    let count : begun_in (journal ++ e ∷ []) next_jobs ≡ n =
    sym (begins_count (journal ++ e ∷ []) next_jobs) ∙ as_many ∙ begins_count journal jobs in
    let led : (progress_of s.script (journal ++ e ∷ [])).jobs ≡ slice_set fs at g ++ gs =
    ap (λ (q : Progress). q.jobs) (progress-more s.script journal e) ∙ leads in
    let set_count : length (slice_set fs at g) ≡ length set_jobs = length-set fs at g ∙ told.count ∙ sym (length-set jobs at next) in
    let all : JobStoriesHold s n (length journal + 1) (slice_set fs at g ++ gs) next_jobs =
    told_append s n (length journal + 1) (slice_set fs at g) gs set_jobs more_jobs set_count
    (told_in_place s n n (length journal) (length journal + 1) fs (slice_set fs at g) jobs at job next g (omega arith) (omega arith) stands
    (get_set_same fs at f g got) (λ j ne. get_set_other fs at j g ne) mine told.jobs_told) started in
    record {
      entries = true-more s lasts journal last e told.entries one;
      count = ap length led ∙ length-append (slice_set fs at g) gs ∙ ap₂ (λ a b. a + b) set_count even ∙ sym (length-append set_jobs more_jobs);
      jobs_told = subst (λ gs. JobStoriesHold s (begun_in (journal ++ e ∷ []) next_jobs) (length (journal ++ e ∷ [])) gs next_jobs) (sym led)
          (subst (λ k. JobStoriesHold s k (length (journal ++ e ∷ [])) (slice_set fs at g ++ gs) next_jobs) (sym count)
          (subst (λ k. JobStoriesHold s n k (slice_set fs at g ++ gs) next_jobs) (sym length_is) all));
      begins = begins_moved journal (journal ++ e ∷ []) (begins_of journal jobs) (begins_of (journal ++ e ∷ []) next_jobs) more (omega arith) told.begins;
      few = subst (λ k. k ≤ most_entries s.script) (sym count) told.few;
    }

-- ---- its job after it
same_job : (a b : Job) → a.block ≡ b.block → a.next ≡ b.next → a.variables ≡ b.variables → a ≡ b
same_job a b block next variables = λ i. record { block = block i; next = next i; variables = variables i }

-- after a commit
pub committed_told : (s : Setting) (begun entered led : ℕ) (f : Following) (job : JobView) (tx : TxView) → job.doing ≡ Active tx → tx.phase ≡ Committing
    → led ≡ entered → StoryHolds s begun entered f job → StoryHolds s begun (entered + 1) (gone_on s.script led f tx) (behind_commit job tx)
committed_told s begun entered led f job tx active commits count told =
    let under : IsUnderway s f job.place (asked_at s job) tx = subst (IsDoing s begun f job) active told.doing in
    let committing : IsCommitting s job.place (asked_at s job) tx = subst (IsInPhase s job.place (asked_at s job) tx) commits under.phase in
    let g = gone_on s.script led f tx in
    let ended : Variables → Variables = λ v. with_ends v (kept_calls tx.calls tx.replies) tx.ends in
    let passed_job : Job = record { block = job.place.block; next = job.place.next + 1; variables = ended job.place.variables } in
    let same : passed_job ≡ g.job = same_job passed_job g.job under.standing.block (ap (λ n. n + 1) under.standing.next)
    (ap ended (committing.settled.variables ∙ variables_behind s f job.place tx under.ahead under.client)) in
    record {
      block = told.block;
      fresh = refl;
      sided = under.sided;
      since = omega arith;
      attempts = (refl, refl);
      few = omega arith;
      doing = (λ own. refl, ap at_begin same);
    }

-- and the jobs that it started
pub started_told : (s : Setting) (begun entered led : ℕ) (starter : Job) (behind : JobView) (blocks : List (List ℕ)) → led ≡ entered
    → behind.me ≡ beginning behind.me.places → All IsSided behind.me.places → behind.place.variables ≡ starter.variables
    → JobStoriesHold s begun (entered + 1) (map (progress_started s.script starter (led + 1)) blocks) (map (started_job s.script behind) blocks)
started_told s begun entered led starter behind [] count fresh sided same at f job got there = cc got
started_told s begun entered led starter behind (block ∷ blocks) count fresh sided same zero f job got there =
    let g = progress_started s.script starter (led + 1) block in
    let mine = started_job s.script behind block in
    let is_f : g ≡ f = cc got in
    let is_job : mine ≡ job = cc there in
    let told : StoryHolds s begun (entered + 1) g mine = record {
      block = refl;
      fresh = fresh;
      sided = sided;
      since = omega arith;
      attempts = (refl, refl);
      few = omega arith;
      doing = (λ own. refl, ap (λ variables. at_begin (started_from s.script variables block)) same);
    } in
    subst (λ h. StoryHolds s begun (entered + 1) h job) is_f (subst (StoryHolds s begun (entered + 1) g) is_job told)
started_told s begun entered led starter behind (block ∷ blocks) count fresh sided same (suc at) f job got there =
    started_told s begun entered led starter behind blocks count fresh sided same at f job got there

-- the same attempts
attempts_same : (f g : Following) (o : Option Attempts) → g.first ≡ f.first → g.failed ≡ f.failed → AreAttempts f o → AreAttempts g o
attempts_same f g None first failed are = (first ∙ are.0, failed ∙ are.1)
attempts_same f g (Some a) first failed are = (first ∙ are.0, ap length failed ∙ are.1, are.2, are.3, failed ∙ are.4)

-- after an abort that the script asked
asked_told : (s : Setting) (begun entered led : ℕ) (f : Following) (job : JobView) (tx : TxView) (e : Entry) → led ≡ entered
    → IsUnderway s f job.place (asked_at s job) tx → StoryHolds s begun entered f job
    → StoryHolds s begun (entered + 1) (following_abort led f e cause.Asked) (behind_abort job tx cause.Asked)
asked_told s begun entered led f job tx e count under told =
    let passed_job : Job = record { block = job.place.block; next = job.place.next + 1; variables = job.place.begun } in
    let next : Job = record f.job { next = f.job.next + 1 } in
    let same : passed_job ≡ next = same_job passed_job next under.standing.block (ap (λ n. n + 1) under.standing.next) under.standing.begun in
    record {
      block = told.block;
      fresh = told.fresh;
      sided = told.sided;
      since = omega arith;
      attempts = (refl, refl);
      few = omega arith;
      doing = (λ own. refl, ap at_begin same);
    }

-- after one for lack of memory
wanted_told : (s : Setting) (begun entered led : ℕ) (f : Following) (job : JobView) (tx : TxView) (e : Entry) → led ≡ entered
    → IsUnderway s f job.place (asked_at s job) tx → StoryHolds s begun entered f job
    → StoryHolds s begun (entered + 1) (following_abort led f e cause.NoMemory) (behind_abort job tx cause.NoMemory)
wanted_told s begun entered led f job tx e count under told =
    let g = following_abort led f e cause.NoMemory in
    let stood : Job = record { block = job.place.block; next = job.place.next; variables = job.place.begun } in
    let same : stood ≡ f.job = same_job stood f.job under.standing.block under.standing.next under.standing.begun in
    record {
      block = told.block;
      fresh = told.fresh;
      sided = told.sided;
      since = omega arith;
      attempts = attempts_same f g job.attempts refl refl told.attempts;
      few = told.few;
      doing = (refl, under.left, ap at_begin same);
    }

-- an attempt more that is to be tried again
abbrev tried_again : ℕ → Following → ℕ → Cause → Following
tried_again led f number c = record f { first = Some (unwrap_or f.first number); failed = f.failed ++ c ∷ []; since = led + 1 }

abbrev behind_attempt : JobView → TxView → Cause → JobView
behind_attempt job tx c =
    record job {
      place = at_begin (record { block = job.place.block; next = job.place.next; variables = job.place.begun });
      handed = None;
      attempts = Some (attempts_with job.attempts tx c);
      busy = 0;
      doing = Idle;
    }

tried_told : (s : Setting) (begun entered led : ℕ) (f : Following) (job : JobView) (tx : TxView) (c : Cause) → led ≡ entered
    → IsUnderway s f job.place (asked_at s job) tx → StoryHolds s begun entered f job
    → StoryHolds s begun (entered + 1) (tried_again led f tx.number c) (behind_attempt job tx c)
tried_told s begun entered led f job tx c count under told =
    let stood : Job = record { block = job.place.block; next = job.place.next; variables = job.place.begun } in
    let same : stood ≡ f.job = same_job stood f.job under.standing.block under.standing.next under.standing.begun in
    let longer : length (f.failed ++ c ∷ []) ≡ length f.failed + 1 = length-append f.failed (c ∷ []) in
    record {
      block = told.block;
      fresh = told.fresh;
      sided = told.sided;
      since = omega arith;
      attempts = (ap Some (sym under.rank), longer ∙ ap (λ n. n + 1) (attempts_count f job.attempts told.attempts), omega arith, f.failed, refl);
      few = let lt = under.attempts in omega arith;
      doing = (under.goes_on, ap at_begin same);
    }

aborted_under : (s : Setting) (begun entered led at : ℕ) (f : Following) (job : JobView) (tx : TxView) (c : Cause) → led ≡ entered
    → IsUnderway s f job.place (asked_at s job) tx → StoryHolds s begun entered f job
    → StoryHolds s begun (entered + 1) (following_abort led f (entry_of tx at (aborted_by c tx)) c) (behind_abort job tx c)
aborted_under s begun entered led at f job tx (cause.Stuck failed) count under told =
    asked_told s begun entered led f job tx (entry_of tx at (aborted_by (cause.Stuck failed) tx)) count under told
aborted_under s begun entered led at f job tx cause.Asked count under told =
    asked_told s begun entered led f job tx (entry_of tx at (aborted_by cause.Asked tx)) count under told
aborted_under s begun entered led at f job tx cause.NoMemory count under told =
    wanted_told s begun entered led f job tx (entry_of tx at (aborted_by cause.NoMemory tx)) count under told
aborted_under s begun entered led at f job tx (cause.Conflict object holder now) count under told =
    tried_told s begun entered led f job tx (cause.Conflict object holder now) count under told
aborted_under s begun entered led at f job tx (cause.Revoked object by now) count under told =
    tried_told s begun entered led f job tx (cause.Revoked object by now) count under told

-- after an abort
pub aborted_told : (s : Setting) (begun entered led at : ℕ) (f : Following) (job : JobView) (tx : TxView) (c : Cause) → job.doing ≡ Active tx
    → led ≡ entered → StoryHolds s begun entered f job
    → StoryHolds s begun (entered + 1) (following_abort led f (entry_of tx at (aborted_by c tx)) c) (behind_abort job tx c)
aborted_told s begun entered led at f job tx c active count told =
    aborted_under s begun entered led at f job tx c count (subst (IsDoing s begun f job) active told.doing) told
