-- A station whose jobs have all ended.
use Rattle.std.proofs.Common.{◌≡◌, ℕ, ◌<◌, List, [], ◌∷◌, length, refl, ap, sym, ◌∙◌, subst, arith}
use Rattle.std.proofs.lemmas.Bool.{ne_eqb}
use Rattle.std.specs.Prelude.{◌+◌, ◌-◌, ◌==◌, if◌then◌else◌, false, slice_get, slice_index_or, sum_by, zero, suc}
use Rattle.std.specs.declared.option.Option.TheVariants.{Some}
use Rattle.xc_data.specs.Counts.{RisesBy}
use Rattle.xc_data.specs.Faults.{entry_faults}
use Rattle.xc_data.specs.declared.entry.JobLine.{JobLine}
use Rattle.xc_model.specs.Live.{IsScripted}
use Rattle.xc_model.specs.Setting.{Setting}
use Rattle.xc_model.specs.Moment.{JobView, Doing, Idle, Active, Starved, Ended, Moment, actives}
use Rattle.xc_model.specs.Consistent.{AreLinesOf, IsLineOf}
use Rattle.xc_model.specs.Counted.{tx_faults}
use Rattle.xc_model.specs.Ending.{IsTrueEnd}
use Rattle.xc_model.specs.Handles.{AreCalled}
use Rattle.xc_turns.proofs.Laws.{calls_true, ends_told, journal_true, words_are_left, complete}
use Rattle.xc_refines.proofs.Laws.{at_rest}
use Rattle.xc_station.specs.declared.job.Job.{Job}
use Rattle.xc_station.specs.Jobs.{is_live, job_view}
use Rattle.xc_station.specs.Stations.{IsSteady, NobodyLives, live_at, lives}

there : (jobs : List Job) (k : ℕ) (d : Job) → k < length jobs → slice_get jobs k ≡ Some (slice_index_or jobs k d)
there [] k d low = absurd (omega arith)
there (job ∷ jobs) zero d low = refl
there (job ∷ jobs) (suc k) d low = there jobs k d (omega arith)

-- the job in a place, by its number
by_place : (jobs : List Job) (at : ℕ) → live_at jobs (at + 1) ≡ lives (slice_get jobs at)
by_place jobs at =
    let some : (at + 1 == 0) ≡ false = ne_eqb (at + 1) 0 (λ none. omega arith) in
    let same : at + 1 - 1 ≡ at = omega arith in
    λ i. if some i then false else lives (slice_get jobs (same i))

-- each job has ended where nobody lives
pub each_ended : (jobs : List Job) → NobodyLives jobs → (k : ℕ) (d : Job) → k < length jobs → is_live (job_view (slice_index_or jobs k d)) ≡ false
each_ended jobs nobody k d low = sym (ap lives (there jobs k d low)) ∙ (sym (by_place jobs k) ∙ nobody (k + 1))

-- then no transaction is active
pub none_left : (jobs : List JobView) (lines : List JobLine) → AreLinesOf jobs lines → actives jobs ≡ []
none_left [] lines h = refl
none_left (job ∷ jobs) [] h = absurd h
none_left (job ∷ jobs) (line ∷ lines) h = passes job.doing job refl line jobs lines h.0 (none_left jobs lines h.1) where
  passes : (doing : Doing) (job : JobView) → job.doing ≡ doing → (line : JobLine) (jobs : List JobView) (lines : List JobLine) → IsLineOf line job job.doing
      → actives jobs ≡ [] → actives (job ∷ jobs) ≡ []
  passes Idle job is line jobs lines own rest = absurd (subst (IsLineOf line job) is own)
  passes (Active tx) job is line jobs lines own rest = absurd (subst (IsLineOf line job) is own)
  passes Starved job is line jobs lines own rest = absurd (subst (IsLineOf line job) is own)
  passes (Ended end) job is line jobs lines own rest = ap (λ d. actives (record job { doing = d } ∷ jobs)) is ∙ rest

-- the journal is true, and leads to all that is left
pub true_end : (s : Setting) (faults : ℕ) (now : Moment) (lines : List JobLine) → IsSteady s faults now → AreLinesOf now.jobs lines
    → IsTrueEnd s now.journal (record { words = now.words; contents = now.contents; lines = lines })
true_end s faults now lines steady over =
    let told = steady.kept.told in
    let journal = journal_true s (length now.words) now.marks now.journal now.jobs now.calls lines told steady.kept.handled over in
    let ends = ends_told s (length now.words) now.marks now.journal now.jobs lines told over in
    record {
      journal = journal;
      few = let most = told.few in omega arith;
      attempts = steady.kept.attempts;
      patience = λ zero. (steady.kept.patience zero).entries;
      words = words_are_left _ now.words now.jobs lines steady.kept.spoken over;
      state = λ tells. at_rest s now lines (steady.flying tells) over;
      ends = ends;
      complete = λ own done. complete s told.lasts now.journal lines own told.entries ends done;
    }

-- the host's count rose by the faults of the entries alone
pub counted_end : (s : Setting) (faults : ℕ) (now : Moment) (lines : List JobLine) → IsSteady s faults now → AreLinesOf now.jobs lines
    → RisesBy (sum_by entry_faults now.journal) faults now.faults
counted_end s faults now lines steady over =
    let none : sum_by entry_faults now.journal + sum_by tx_faults (actives now.jobs) ≡ sum_by entry_faults now.journal =
    ap (λ txs. sum_by entry_faults now.journal + sum_by tx_faults txs) (none_left now.jobs lines over) ∙ omega arith in
    subst (λ n. RisesBy n faults now.faults) none steady.kept.counted

-- the host was called since its opening by the entries alone
pub called_end : (s : Setting) (faults : ℕ) (now : Moment) (lines : List JobLine) → IsScripted s.script → IsSteady s faults now → AreLinesOf now.jobs lines
    → AreCalled s.script now.journal now.calls
called_end s faults now lines own steady over =
    calls_true s (length now.words) now.marks now.journal now.jobs now.calls lines own steady.kept.told steady.kept.handled over
