-- Runs of turns.
use Rattle.std.proofs.Common.{◌≡◌, ◌≢◌, ◌+◌, ◌-◌, ◌%◌, ◌^◌, ◌<◌, ◌≤◌, ℕ, zero, suc, Bool, true, false, List, [], ◌∷◌, ◌++◌, length, length-append, length-set}
use Rattle.std.proofs.Common.{ap, sym, refl, ◌∙◌, subst, arith}
use Rattle.std.proofs.Math.Decide.{dec_le}
use Rattle.std.proofs.lemmas.Bool.{ne_eqb}
use Rattle.std.proofs.lemmas.List.{append-nil, append_assoc, length-map}
use Rattle.std.proofs.lemmas.Option.{slice_get-map, slice_get_past}
use Rattle.std.specs.Prelude.{Option, ◌==◌, drop, slice_get, slice_index, slice_set, if◌then◌else◌}
use Rattle.std.specs.Option.{option_map}
use Rattle.std.specs.declared.option.Option.TheVariants.{None, Some}
use mathlib.Core.Logic.{dite}
use native.Mathlib.Decide.{ℕ_discrete}
use Rattle.xc_data.specs.declared.entry.Event.{Event}
use Rattle.xc_data.specs.declared.entry.Turn.{Turn}
use Rattle.xc_data.specs.declared.undo.Undo.{Undo}
use Rattle.xc_host.specs.Model.{HostModel}
use Rattle.xc_model.specs.declared.phase.Phase.{Phase}
use Rattle.xc_model.specs.declared.phase.Phase.TheVariants.{Running, Committing, Undoing, Backing}
use Rattle.xc_model.specs.Alone.{AreAlone}
use Rattle.xc_model.specs.Live.{IsScripted}
use Rattle.xc_data.specs.declared.call.LateCall.{LateCall}
use Rattle.xc_model.specs.Moment.{TxView, JobView, Doing, Active, Moment, active_in, late_left}
use Rattle.xc_model.specs.Rows.{IsTurn}
use Rattle.xc_model.specs.Movers.{IsActiveAt}
use Rattle.xc_turns.proofs.Laws.{get_inside, alone_turned, alone_later}
use Rattle.xc_station.specs.declared.job.Job.{Job}
use Rattle.xc_station.specs.Jobs.{back_stage, goes_on, is_live, late_stage, phase_stage, job_view, job_views, stage_of}
use Rattle.xc_station.specs.Stations.{ChangesOne, GoesOn, IsFrontOf, IsNextOf, IsStepOf, KeepsEvents, KeepsOpening, KeepsOrigin}
use Rattle.xc_station.specs.Events.{IsEvent, IsTurnTried}
use Rattle.xc_data.proofs.Laws.{get_set_other}
use Rattle.xc_station.specs.Stations.{StationView, TakeTurns, WorksOn, live_at, lives, now_of, numbers, setting_of, turns_of}
use Rattle.xc_station.specs.Events.{with_event}

-- one run after another
pub goes_further : {H : Type 0} (a b c : StationView H) → GoesOn a b → GoesOn b c → GoesOn a c
goes_further a b c h k =
    record {
      origin = record { opening = k.origin.opening ∙ h.origin.opening; rules = k.origin.rules ∙ h.origin.rules };
      front = (
        h.front.0 ++ k.front.0,
        k.front.1 ∙ ap (λ es. es ++ k.front.0) h.front.1 ∙ append_assoc a.journal h.front.0 k.front.0,
      );
      count = let first = h.count in let more = k.count in omega (arith, first, more);
    }

-- one run of turns of a job after another
pub works_further : {H : Type 0} (model : HostModel H) (job : ℕ) (a b c : StationView H) → IsScripted b.opening.script → length a.jobs ≤ length b.jobs
    → WorksOn model job a b → WorksOn model job b c → WorksOn model job a c
works_further model job a b c own rises h k =
    record {
      taken = k.taken ∙ h.taken;
      others = λ other away low. let more = rises in k.others other away (omega (arith, low, more)) ∙ h.others other away low;
      alone = λ first alone. k.alone own (h.alone first alone);
    }

-- one event after what it tells of
pub event_noted : {H : Type 0} (a b c : StationView H) (e : Event) → GoesOn a b → KeepsEvents a b → length b.journal ≤ 4294967295 → c ≡ with_event b e
    → IsEvent a c e
event_noted a b c e goes quiet few is =
    subst (λ s. IsEvent a s e) (sym is)
    (record {
      origin = record { opening = goes.origin.opening; rules = goes.origin.rules };
      front = goes.front;
      few = few;
      count = ap (λ n. (n + 1) % 18446744073709551616) quiet.events;
      last = refl;
    })

-- ---- a turn
seen_live : Option JobView → Bool
seen_live None = false
seen_live (Some job) = is_live job

live_seen : (o : Option Job) → lives o ≡ seen_live (option_map job_view o)
unfolding seen_live
live_seen None = refl
live_seen (Some job) = refl

-- whether a job lives is seen
lives_as : (jobs : List Job) (at : ℕ) → lives (slice_get jobs at) ≡ seen_live (slice_get (job_views jobs) at)
lives_as jobs at = live_seen (slice_get jobs at) ∙ ap seen_live (sym (slice_get-map job_view jobs at))

-- a job whose view goes on lives
pub live_there : (jobs : List Job) (at : ℕ) (job : JobView) → slice_get (job_views jobs) at ≡ Some job → is_live job ≡ true
    → lives (slice_get jobs at) ≡ true
unfolding seen_live
live_there jobs at job there live = lives_as jobs at ∙ ap seen_live there ∙ live

-- a live job has a number
pub live_has_number : (jobs : List Job) (job : ℕ) → live_at jobs job ≡ true → 1 ≤ job
live_has_number jobs zero live = cc
live_has_number jobs (suc n) live = omega arith

others_live : (old new : List Job) (at : ℕ) (behind : JobView) (more : List JobView) → job_views new ≡ slice_set (job_views old) at behind ++ more
    → (other : ℕ) → other ≢ at → other < length old → lives (slice_get new other) ≡ lives (slice_get old other)
others_live old new at behind more jobs other away low =
    let count = length-set (job_views old) at behind in let as_many = length-map old job_view in
    lives_as new other ∙ ap (λ js. seen_live (slice_get js other)) jobs
    ∙ ap seen_live (get_inside (slice_set (job_views old) at behind) more other (omega (arith, low, count, as_many))
    ∙ get_set_other (job_views old) at other behind away)
    ∙ sym (lives_as old other)

-- a turn of one job leaves whether another lives that was there
pub other_lives : (old new : List Job) (job : ℕ) (behind : JobView) (more : List JobView) → 1 ≤ job
    → job_views new ≡ slice_set (job_views old) (job - 1) behind ++ more → (other : ℕ) → other ≢ job → other ≤ length old
    → live_at new other ≡ live_at old other
other_lives old new job behind more positive jobs other away low =
    dite (ℕ_discrete other 0)
    (λ none. ap (live_at new) none ∙ sym (ap (live_at old) none))
    (λ some. ap (λ (b : Bool). if other == 0 then false else b)
    (others_live old new (job - 1) behind more jobs (other - 1) (λ same. away (omega arith)) (omega (arith, low, some))))

module _ {H : Type 0} (model : HostModel H) (job : ℕ) (old new : StationView H) (answer : Turn) (kept : KeepsOpening old new)
    (row : IsTurn (setting_of model old) (job - 1) (now_of model old) answer (now_of model new))
    (left : ChangesOne (job - 1) (now_of model old) (now_of model new)) where
  pub turn_goes : GoesOn old new
  turn_goes =
      record {
        origin = record { opening = kept.opening; rules = kept.rules };
        front = left.front;
        count =
            let behind = ap length left.jobs ∙ length-append (slice_set (job_views old.jobs) (job - 1) left.behind) left.started in
            let set = length-set (job_views old.jobs) (job - 1) left.behind in
            let news = length-map new.jobs job_view in let olds = length-map old.jobs job_view in
            omega (arith, behind, set, news, olds);
      }

  pub turn_works : 1 ≤ job → WorksOn model job old new
  turn_works positive =
      record {
        taken = kept.taken;
        others = other_lives old.jobs new.jobs job left.behind left.started positive left.jobs;
        alone = λ own. alone_turned _ _ _ _ _ own row;
      }

-- ---- one job after another
late_goes : (late : List LateCall) → goes_on (late_stage late) ≡ true
late_goes [] = refl
late_goes (c ∷ late) = refl

back_goes : (pending : List Undo) → goes_on (back_stage pending) ≡ true
back_goes [] = refl
back_goes (u ∷ pending) = refl

-- an active transaction goes on in each phase
pub phase_goes : (tx : TxView) (phase : Phase) → goes_on (phase_stage tx phase) ≡ true
phase_goes tx Running = refl
phase_goes tx Backing = refl
phase_goes tx Committing = late_goes (late_left tx)
phase_goes tx (Undoing c) = back_goes tx.undo.pending

active_goes : (d : Doing) (tx : TxView) → active_in d ≡ Some tx → goes_on (stage_of d) ≡ true
active_goes (Active t) tx active = phase_goes t t.phase
active_goes _ tx active = cc

-- a job's place is one less than its number
pub by_place : (jobs : List Job) (at : ℕ) → live_at jobs (at + 1) ≡ lives (slice_get jobs at)
by_place jobs at =
    let some : (at + 1 == 0) ≡ false = ne_eqb (at + 1) 0 (λ none. omega arith) in
    let same : at + 1 - 1 ≡ at = omega arith in
    λ i. if some i then false else lives (slice_get jobs (same i))

-- a job that has ended has no active transaction
ended_rests : (jobs : List Job) (at : ℕ) → live_at jobs (at + 1) ≡ false → (tx : TxView) → IsActiveAt (job_views jobs) at tx → ⊥
unfolding seen_live
ended_rests jobs at ended tx (job, stands, active) =
    let live : seen_live (slice_get (job_views jobs) at) ≡ true = ap seen_live stands ∙ active_goes job.doing tx active in
    let not : seen_live (slice_get (job_views jobs) at) ≡ false = sym (lives_as jobs at) ∙ sym (by_place jobs at) ∙ ended in
    let no : true ≡ false = sym live ∙ not in cc

none_there : (b : Bool) → (if b then false else lives None) ≡ false
none_there true = refl
none_there false = refl

-- no job lives past the last
pub none_past : (jobs : List Job) (number : ℕ) → length jobs < number → live_at jobs number ≡ false
none_past jobs number high =
    ap (λ (o : Option Job). if number == 0 then false else lives o) (slice_get_past jobs (number - 1) (omega (arith, high))) ∙ none_there (number == 0)

-- so the number of one that lives is no more
pub live_within : (jobs : List Job) (number : ℕ) → live_at jobs number ≡ true → number ≤ length jobs
live_within jobs number live =
    dite (dec_le number (length jobs))
    (λ low. low)
    (λ high. let both : true ≡ false = sym live ∙ none_past jobs number (omega (arith, high)) in cc both)

-- a worker takes the next job, and takes it to its end
module _ {H : Type 0} (model : HostModel H) (job : ℕ) (old taking new : StationView H) (is : taking.jobs ≡ old.jobs) (at : taking.taken ≡ job)
    (now : now_of model taking ≡ now_of model old) (next : IsNextOf old.jobs old.taken job)
    (works : WorksOn model job taking new) where
  pub next_goes : taking.opening ≡ old.opening → taking.rules ≡ old.rules → GoesOn taking new → GoesOn old new
  next_goes opening rules goes =
      goes_further old taking new
      (record {
        origin = record { opening = opening; rules = rules };
        front = ([], ap (λ (n : Moment). n.journal) now ∙ sym (append-nil old.journal));
        count = let same = ap length is in omega (arith, same);
      }) goes

  before : (from : ℕ) → ((other : ℕ) → from < other → other ≤ old.taken → live_at old.jobs other ≡ false) → (other : ℕ) → from < other
      → other < job → live_at old.jobs other ≡ false
  before from ended other low less = dite (dec_le other old.taken) (ended other low) (λ above. next.first other (omega arith) less)

  pub next_ended : (from : ℕ) → live_at new.jobs job ≡ false → ((other : ℕ) → from < other → other ≤ old.taken → live_at old.jobs other ≡ false)
      → (other : ℕ) → from < other → other ≤ new.taken → live_at new.jobs other ≡ false
  next_ended from mine ended other low most =
      let last : new.taken ≡ job = works.taken ∙ at in
      dite (ℕ_discrete other job)
      (λ same. ap (live_at new.jobs) same ∙ mine)
      (λ away. works.others other away (let count = ap length is in let within = live_within old.jobs job next.live in omega (arith, last, most, within, count))
      ∙ ap (λ js. live_at js other) is ∙ before from ended other low (omega (arith, last, most, away)))

  pub next_others : (from : ℕ) → from ≤ old.taken → (other : ℕ) → other ≤ from → live_at new.jobs other ≡ live_at old.jobs other
  next_others from low other most =
      let above = next.above in
      let count = ap length is in let within = live_within old.jobs job next.live in
      works.others other (λ same. omega (arith, same, above, low, most)) (omega (arith, above, low, most, within, count)) ∙ ap (λ js. live_at js other) is

  pub next_alone : IsScripted taking.opening.script → ((other : ℕ) → 0 < other → other ≤ old.taken → live_at old.jobs other ≡ false)
      → AreAlone (now_of model old) (old.taken - 1) → AreAlone (now_of model new) (new.taken - 1)
  next_alone own ended alone =
      let last : new.taken ≡ job = works.taken ∙ at in
      let above = next.above in
      let later : AreAlone (now_of model old) (job - 1) =
      dite (ℕ_discrete (old.taken - 1) (job - 1))
      (λ same. subst (AreAlone (now_of model old)) same alone)
      (λ away. alone_later (now_of model old) (old.taken - 1) (job - 1) alone
      (ended_rests old.jobs (old.taken - 1) (before 0 ended (old.taken - 1 + 1) (omega arith) (omega (arith, above, away)))) (omega (arith, above))) in
      subst (λ n. AreAlone (now_of model new) (n - 1)) (sym last) (works.alone own (subst (λ (n : Moment). AreAlone n (job - 1)) (sym now) later))

-- where the last was taken none above lives
pub none_above : (jobs : List Job) (from taken : ℕ) → ((other : ℕ) → from < other → other ≤ taken → live_at jobs other ≡ false)
    → ((other : ℕ) → taken < other → live_at jobs other ≡ false) → (other : ℕ) → from < other → live_at jobs other ≡ false
none_above jobs from taken ended past other more = dite (dec_le other taken) (ended other more) (λ high. past other (omega (arith, high)))

-- and from a start on nobody does
pub nobody_left : (jobs : List Job) → ((other : ℕ) → 0 < other → live_at jobs other ≡ false) → (number : ℕ) → live_at jobs number ≡ false
nobody_left jobs ended number = dite (ℕ_discrete number 0) (λ none. ap (live_at jobs) none) (λ some. ended number (omega (arith, some)))

-- ---- a list of turns
taken_at : {H : Type 0} (model : HostModel H) (jobs : List ℕ) (k : ℕ) (now next end : StationView H) → k < length jobs
    → IsStepOf model (slice_index jobs k) (record { old = now; new = next }) (live_at now.jobs (slice_index jobs k))
    → TakeTurns model (drop (suc k) jobs) next end
    → TakeTurns model (drop k jobs) now end
taken_at model [] k now next end low step rest = absurd (omega arith)
taken_at model (job ∷ jobs) zero now next end low step rest = (next, step, rest)
taken_at model (job ∷ jobs) (suc k) now next end low step rest = taken_at model jobs k now next end (omega arith) step rest

-- one turn more of those that are left is taken
pub taken_next : {H : Type 0} (model : HostModel H) (jobs : List ℕ) (k after : ℕ) (now next end : StationView H) → after ≡ suc k → k < length jobs
    → IsStepOf model (slice_index jobs k) (record { old = now; new = next }) (live_at now.jobs (slice_index jobs k))
    → TakeTurns model (drop after jobs) next end
    → TakeTurns model (drop k jobs) now end
taken_next model jobs k after now next end one low step rest =
    taken_at model jobs k now next end low step (subst (λ n. TakeTurns model (drop n jobs) next end) one rest)

-- a turn that was tried is a step of its job
pub tried_steps : {H : Type 0} (model : HostModel H) (job : ℕ) (old new : StationView H) (live : Bool) (answer : Option Turn)
    → IsTurnTried model job (record { old = old; new = new }) live answer → IsStepOf model job (record { old = old; new = new }) live
tried_steps model job old new true (Some answer) tried = (answer, tried)
tried_steps model job old new true None row = absurd row
tried_steps model job old new false (Some answer) row = absurd row
tried_steps model job old new false None same = subst (λ s. s ≡ record old { events = s.events; last = s.last }) (sym same) refl

-- an event after others: the origin stays, and the journal goes on
pub origin_further : {H : Type 0} (old mid new : StationView H) (e : Event) → KeepsOrigin old mid → IsEvent mid new e → KeepsOrigin old new
origin_further old mid new e was is = record { opening = is.origin.opening ∙ was.opening; rules = is.origin.rules ∙ was.rules }

-- the journal of one event more has the old one in front
pub front_further : {H : Type 0} (old mid new : StationView H) (e : Event) → IsFrontOf old.journal mid.journal → IsEvent mid new e
    → IsFrontOf old.journal new.journal
front_further old mid new e was is =
    (was.0 ++ is.front.0, is.front.1 ∙ ap (λ es. es ++ is.front.0) was.1 ∙ append_assoc old.journal was.0 is.front.0)

-- and the count is one more
pub counts_further : (old mid new k : ℕ) → mid % 2 ^ 64 ≡ (old + k) % 2 ^ 64 → new ≡ (mid + 1) % 2 ^ 64 → new % 2 ^ 64 ≡ (old + (k + 1)) % 2 ^ 64
counts_further old mid new k was is = omega arith

-- ---- rounds
-- one turn more after a list of them
pub taken_more : {H : Type 0} (model : HostModel H) (jobs : List ℕ) (job : ℕ) (old mid new : StationView H) → TakeTurns model jobs old mid
    → IsStepOf model job (record { old = mid; new = new }) (live_at mid.jobs job) → TakeTurns model (jobs ++ job ∷ []) old new
taken_more {H = H} model [] job old mid new same step =
    (new, subst (λ (s : StationView H). IsStepOf model job (record { old = s; new = new }) (live_at s.jobs job)) same step, refl)
taken_more model (j ∷ jobs) job old mid new (next, first, rest) step = (next, first, taken_more model jobs job next mid new rest step)

-- those that don't live are passed over
pub passed_over : {H : Type 0} (model : HostModel H) (at more : ℕ) (old mid : StationView H) → TakeTurns model (numbers at) old mid
    → ((number : ℕ) → at < number → number ≤ at + more → live_at mid.jobs number ≡ false) → TakeTurns model (numbers (at + more)) old mid
passed_over model at zero old mid turns ended = subst (λ n. TakeTurns model (numbers n) old mid) (let e : at ≡ at + zero = omega arith in e) turns
passed_over model at (suc more) old mid turns ended =
    let next : suc (at + more) ≡ at + suc more = omega arith in
    let last = ended (suc (at + more)) (omega arith) (omega arith) in
    subst (λ n. TakeTurns model (numbers n) old mid) next
    (taken_more model (numbers (at + more)) (suc (at + more)) old mid mid
    (passed_over model at more old mid turns (λ number above most. ended number above (omega (arith, most))))
    (subst (IsStepOf model (suc (at + more)) (record { old = mid; new = mid })) (sym last) refl))

-- and the next live one takes its turn
pub next_turned : {H : Type 0} (model : HostModel H) (at job : ℕ) (old mid new : StationView H) → IsNextOf mid.jobs at job
    → TakeTurns model (numbers at) old mid → IsStepOf model job (record { old = mid; new = new }) (live_at mid.jobs job) → TakeTurns model (numbers job) old new
next_turned model at job old mid new next turns step =
    let above = next.above in
    let between : ℕ = job - 1 - at in
    let last : suc (at + between) ≡ job = omega (arith, above) in
    let before = passed_over model at between old mid turns (λ number more most. next.first number more (omega (arith, most, above))) in
    subst (λ n. TakeTurns model (numbers n) old new) last
    (subst (λ n. TakeTurns model (numbers (at + between) ++ n ∷ []) old new) (sym last) (taken_more model (numbers (at + between)) job old mid new before step))

-- so a round ends where none lives any more
pub round_over : {H : Type 0} (model : HostModel H) (at : ℕ) (old new : StationView H) → at ≤ length new.jobs → TakeTurns model (numbers at) old new
    → ((number : ℕ) → at < number → live_at new.jobs number ≡ false) → TakeTurns model (numbers (length new.jobs)) old new
round_over model at old new low turns ended =
    subst (λ n. TakeTurns model (numbers n) old new) (let e : at + (length new.jobs - at) ≡ length new.jobs = omega (arith, low) in e)
    (passed_over model at (length new.jobs - at) old new turns (λ number more most. ended number more))

-- a turn after others leaves fewer
pub falls_further : {H : Type 0} (model : HostModel H) (at : ℕ) (old mid new : StationView H) → (0 < at → turns_of model mid < turns_of model old)
    → (at ≡ 0 → mid ≡ old) → turns_of model new < turns_of model mid → turns_of model new < turns_of model old
falls_further model zero old mid new falls same fell = subst (λ s. turns_of model new < turns_of model s) (same refl) fell
falls_further model (suc at) old mid new falls same fell = let before = falls (omega arith) in omega (arith, fell, before)
