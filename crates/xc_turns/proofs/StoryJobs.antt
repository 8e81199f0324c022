-- The stories of all jobs, where one job goes on in its place.
use Rattle.std.proofs.Common.{◌≡◌, ◌≢◌, ℕ, ◌+◌, ◌<◌, ◌≤◌, List, ◌∷◌, ◌++◌, length, map, zero, suc, [], refl, ap, sym, ◌∙◌, subst, arith, length-set}
use Rattle.std.specs.Prelude.{Option, slice_get, slice_set}
use Rattle.std.specs.declared.option.Option.TheVariants.{None, Some}
use Rattle.std.specs.Option.{option_map}
use Rattle.std.proofs.lemmas.List.Sorted.{length_permutation}
use mathlib.Core.Logic.{dite}
use native.Mathlib.Decide.{ℕ_discrete}
use Rattle.xc_data.specs.declared.entry.Entry.{Entry}
use Rattle.xc_data.specs.declared.entry.JobEnd.{JobEnd}
use Rattle.xc_data.specs.declared.entry.JobEnd.TheVariants as job_end
use Rattle.xc_data.specs.declared.entry.Mark.{Mark}
use Rattle.xc_script.specs.declared.ask.Ask.{Ask}
use Rattle.xc_model.specs.Setting.{Setting}
use Rattle.xc_model.specs.Live.{most_entries}
use Rattle.xc_model.specs.Grounds.{AreGrounded}
use Rattle.xc_model.specs.Progress.{Following, opening_progress, progress_of}
use Rattle.xc_model.specs.Joint.{AreTrue}
use Rattle.xc_model.specs.Ending.{IsEnd}
use Rattle.xc_model.specs.Moment.{TxView, JobView, Doing, Idle, Active, Starved, Ended, active_of, actives}
use Rattle.xc_model.specs.Stories.{StoriesHold, AreBegins, IsDoing, StoryHolds, active_begin, begins_of, entry_begin, reading, scene_at}
use Rattle.xc_turns.proofs.Lists.{get_beside}
use Rattle.xc_data.proofs.Laws.{get_set_same, get_set_other}
use Rattle.xc_turns.proofs.StoryBegins.{begins_begun, begins_count, begins_moved, begins_stay, begins_with, count_stays}

-- each job goes on with its story
abbrev pub JobStoriesHold : Setting → ℕ → ℕ → List Following → List JobView → Type 0
JobStoriesHold s begun entered followings jobs =
    (at : ℕ) (f : Following) (job : JobView) → slice_get followings at ≡ Some f → slice_get jobs at ≡ Some job → StoryHolds s begun entered f job

-- how many transactions have begun
abbrev pub begun_in : List Entry → List JobView → ℕ
begun_in journal jobs = length journal + length (actives jobs)

-- what is true of the stories, but for the grounds of conflicts
pub record StoriesHoldBut (s : Setting) (lasts : List Ask) (journal : List Entry) (jobs : List JobView) : Type 0 where
  pub entries : AreTrue s (opening_progress s.script) lasts journal
  pub count : length (progress_of s.script journal).jobs ≡ length jobs
  pub jobs_told : JobStoriesHold s (begun_in journal jobs) (length journal) (progress_of s.script journal).jobs jobs
  pub begins : AreBegins journal (begins_of journal jobs)
  pub few : begun_in journal jobs ≤ most_entries s.script

-- it is a part of what is true between two turns
pub told_but : (s : Setting) (words : ℕ) (marks : ℕ → Option Mark) (journal : List Entry) (jobs : List JobView)
    → (told : StoriesHold s words marks journal jobs) → StoriesHoldBut s told.lasts journal jobs
told_but s words marks journal jobs told =
    record { entries = told.entries; count = told.count; jobs_told = told.jobs_told; begins = told.begins; few = told.few }

-- and with the grounds it is all of it
pub told_whole : (s : Setting) (words : ℕ) (marks : ℕ → Option Mark) (lasts : List Ask) (journal : List Entry) (jobs : List JobView)
    → StoriesHoldBut s lasts journal jobs → AreGrounded (scene_at (reading s words marks) lasts journal jobs)
    → (now : StoriesHold s words marks journal jobs) × (now.lasts ≡ lasts)
told_whole s words marks lasts journal jobs told grounded = (
  record {
    lasts = lasts;
    entries = told.entries;
    count = told.count;
    jobs_told = told.jobs_told;
    begins = told.begins;
    few = told.few;
    grounded = grounded;
  },
  refl,
)

-- ---- a job that stays as it was
end_later : (s : Setting) (was is : ℕ) (f : Following) (end : JobEnd) → was ≤ is → IsEnd s was f end → IsEnd s is f end
end_later s was is f job_end.Done le h = h
end_later s was is f (job_end.GaveUp c) le h = h
end_later s was is f job_end.JournalFull le h = let full = h.3 in (h.0, h.1, h.2, omega arith)
end_later s was is f job_end.NoMemory le h = h

doing_later : (s : Setting) (was is : ℕ) (f : Following) (job : JobView) (d : Doing) → was ≤ is → IsDoing s was f job d → IsDoing s is f job d
doing_later s was is f job Idle le h = h
doing_later s was is f job (Active tx) le h = h
doing_later s was is f job Starved le h = h
doing_later s was is f job (Ended end) le h = end_later s was is f end le h

-- its story goes on after no fewer begins and entries
pub told_later : (s : Setting) (begun begun' entered entered' : ℕ) (f : Following) (job : JobView) → begun ≤ begun' → entered ≤ entered'
    → StoryHolds s begun entered f job → StoryHolds s begun' entered' f job
told_later s begun begun' entered entered' f job le longer told =
    record {
      block = told.block;
      fresh = told.fresh;
      sided = told.sided;
      since = let since = told.since in omega arith;
      attempts = told.attempts;
      few = told.few;
      doing = doing_later s begun begun' f job job.doing le told.doing;
    }

-- the stories of all, where one job in its place is another, and the journal may tell something else of it
pub told_in_place : (s : Setting) (begun begun' entered entered' : ℕ) (fs gs : List Following) (jobs : List JobView) (at : ℕ) (job next : JobView)
    (g : Following)
    → begun ≤ begun' → entered ≤ entered' → slice_get jobs at ≡ Some job → slice_get gs at ≡ Some g
    → ((j : ℕ) → j ≢ at → slice_get gs j ≡ slice_get fs j) → StoryHolds s begun' entered' g next
    → JobStoriesHold s begun entered fs jobs → JobStoriesHold s begun' entered' gs (slice_set jobs at next)
told_in_place s begun begun' entered entered' fs gs jobs at job next g le longer stands follows others mine told j f there got_f got =
    dite (ℕ_discrete j at)
    (λ same.
    let here : slice_get (slice_set jobs at next) at ≡ Some next = get_set_same jobs at job next stands in
    let is : next ≡ there = let x : Some next ≡ Some there = sym here ∙ ap (slice_get (slice_set jobs at next)) (sym same) ∙ got in cc in
    let of : g ≡ f = let x : Some g ≡ Some f = sym follows ∙ ap (slice_get gs) (sym same) ∙ got_f in cc in
    subst (λ (h : Following). StoryHolds s begun' entered' h there) of (subst (StoryHolds s begun' entered' g) is mine))
    (λ ne.
    told_later s begun begun' entered entered' f there le longer
    (told j f there (sym (others j ne) ∙ got_f) (sym (get_set_other jobs at j next ne) ∙ got)))

told_first : (s : Setting) (begun entered : ℕ) (f : Following) (fs : List Following) (job : JobView) (jobs : List JobView)
    → ((g : Following) (x : JobView) → slice_get (f ∷ fs) 0 ≡ Some g → slice_get (job ∷ jobs) 0 ≡ Some x → StoryHolds s begun entered g x)
    → JobStoriesHold s begun entered fs jobs → JobStoriesHold s begun entered (f ∷ fs) (job ∷ jobs)
told_first s begun entered f fs job jobs one rest zero g x got_g got = one g x got_g got
told_first s begun entered f fs job jobs one rest (suc at) g x got_g got = rest at g x got_g got

-- and with more jobs after
pub told_append : (s : Setting) (begun entered : ℕ) (fs gs : List Following) (jobs more : List JobView) → length fs ≡ length jobs
    → JobStoriesHold s begun entered fs jobs → JobStoriesHold s begun entered gs more → JobStoriesHold s begun entered (fs ++ gs) (jobs ++ more)
told_append s begun entered [] gs [] more count told rest = rest
told_append s begun entered [] gs (job ∷ jobs) more count told rest = absurd (omega (arith, count))
told_append s begun entered (f ∷ fs) gs [] more count told rest = absurd (omega (arith, count))
told_append s begun entered (f ∷ fs) gs (job ∷ jobs) more count told rest =
    told_first s begun entered f (fs ++ gs) job (jobs ++ more) (told 0)
    (told_append s begun entered fs gs jobs more (omega (arith, count)) (λ i h y got_h got_y. told (suc i) h y got_h got_y) rest)

-- ---- a turn that enters nothing
-- one that begins nothing either
pub story_goes_on : (s : Setting) (lasts : List Ask) (journal : List Entry) (jobs : List JobView) (at : ℕ) (job next : JobView) → slice_get jobs at ≡ Some job
    → option_map active_begin (active_of next) ≡ option_map active_begin (active_of job)
    → ((f : Following) → StoryHolds s (begun_in journal jobs) (length journal) f job → StoryHolds s (begun_in journal jobs) (length journal) f next)
    → StoriesHoldBut s lasts journal jobs → StoriesHoldBut s lasts journal (slice_set jobs at next)
story_goes_on s lasts journal jobs at job next stands same moves told =
    let fs = (progress_of s.script journal).jobs in
    let n = begun_in journal jobs in
    let e = length journal in
    let (f, got) = get_beside fs jobs at job told.count stands in
    let begins = begins_stay jobs at job next stands same in
    let count : begun_in journal (slice_set jobs at next) ≡ n = ap (λ k. e + k) (count_stays jobs (slice_set jobs at next) begins) in
    record {
      entries = told.entries;
      count = told.count ∙ sym (length-set jobs at next);
      jobs_told = subst (λ k. JobStoriesHold s k e fs (slice_set jobs at next)) (sym count)
          (told_in_place s n n e e fs fs jobs at job next f (omega arith) (omega arith) stands got (λ j ne. refl)
          (moves f (told.jobs_told at f job got stands)) told.jobs_told);
      begins = subst (λ bs. AreBegins journal (map entry_begin journal ++ bs)) (sym begins) told.begins;
      few = subst (λ k. k ≤ most_entries s.script) (sym count) told.few;
    }

-- one that begins
pub begins_in : (s : Setting) (lasts : List Ask) (journal : List Entry) (jobs : List JobView) (at : ℕ) (job next : JobView) (tx : TxView)
    → slice_get jobs at ≡ Some job → active_of job ≡ None → active_of next ≡ Some tx → tx.number ≡ begun_in journal jobs + 1 → tx.began ≡ length journal
    → begun_in journal jobs < most_entries s.script
    → ((f : Following) → StoryHolds s (begun_in journal jobs) (length journal) f job → StoryHolds s (begun_in journal jobs + 1) (length journal) f next)
    → StoriesHoldBut s lasts journal jobs → StoriesHoldBut s lasts journal (slice_set jobs at next)
begins_in s lasts journal jobs at job next tx stands none some number began room moves told =
    let fs = (progress_of s.script journal).jobs in
    let n = begun_in journal jobs in
    let e = length journal in
    let (f, got) = get_beside fs jobs at job told.count stands in
    let more = begins_begun journal jobs at job next tx stands none some in
    let old = begins_of journal jobs in
    let all = begins_of journal (slice_set jobs at next) in
    let longer : length all ≡ suc (length old) = length_permutation (active_begin tx ∷ old) all more in
    let count : begun_in journal (slice_set jobs at next) ≡ n + 1 =
    omega (arith, longer, begins_count journal jobs, begins_count journal (slice_set jobs at next)) in
    record {
      entries = told.entries;
      count = told.count ∙ sym (length-set jobs at next);
      jobs_told = subst (λ k. JobStoriesHold s k e fs (slice_set jobs at next)) (sym count)
          (told_in_place s n (n + 1) e e fs fs jobs at job next f (omega arith) (omega arith) stands got (λ j ne. refl)
          (moves f (told.jobs_told at f job got stands)) told.jobs_told);
      begins = begins_moved journal journal (active_begin tx ∷ old) all more (omega arith)
          (begins_with journal old tx.number tx.began (number ∙ ap (λ k. k + 1) (sym (begins_count journal jobs))) began told.begins);
      few = subst (λ k. k ≤ most_entries s.script) (sym count) (omega (arith, room));
    }
